-- Every name and every place in a scoped model is of a kind.
use Rattle.std.specs.Prelude.{ℕ, ◌<◌, All}
use Rattle.mz_base.specs.declared.fault.Span.{Span}
use Rattle.mz_tree.specs.Tree.{Name}
use Rattle.mz_tree.specs.Items.{FunctionTree}
use Rattle.mz_tree.specs.Kinds.{IsSpot, OfTree, OfDeclaration, OfWritten, OfGoal}
use Rattle.mz_tree.specs.Data.{Given}
use Rattle.mz_tree.specs.Named.{names_in}
use Rattle.mz_scope_order.specs.Parts.{EnumTree}
use Rattle.mz_scope_order.specs.Scoped.{ScopedTree}

module _ (Named : Name → Type 0) (Placed : Span → Type 0) where
  abbrev pub OfEnum : EnumTree → Type 0
  OfEnum e = Named e.name × Placed e.span × All (IsSpot Named Placed) e.cases

  abbrev pub OfFunction : FunctionTree → Type 0
  OfFunction f = Named f.name × Placed f.span × OfWritten Named Placed f.result × All (OfDeclaration Named Placed) f.params × OfTree Named Placed f.body

  -- an item of the data
  pub record OfGiven (g : Given) : Type 0 where
    pub name : Named g.name
    pub names : All Named (names_in g.value)
    pub span : Placed g.span
    pub value : Placed g.at

  pub record OfScoped (s : ScopedTree) : Type 0 where
    pub enums : All OfEnum s.enums
    pub decls : All (OfDeclaration Named Placed) s.decls
    pub functions : All OfFunction s.functions
    pub constraints : All (OfTree Named Placed) s.constraints
    pub goal : OfGoal Named Placed s.goal
    pub outputs : All (OfTree Named Placed) s.outputs
    pub given : All OfGiven s.given

-- the names are of a table with this many texts, and the places in this many files
abbrev pub IsWithin : ℕ → ℕ → ScopedTree → Type 0
IsWithin names files s = OfScoped (λ n. n < names) (λ at. at.file < files) s
