-- A scoped model's names and places, where more names and places are of the kind.
use Rattle.std.specs.Prelude.{ℕ, ◌<◌}
use Rattle.std.proofs.lemmas.List.Elements.{All-weaker}
use Rattle.mz_base.specs.declared.fault.Span.{Span}
use Rattle.mz_tree.specs.Tree.{Name, Tree, Declaration}
use Rattle.mz_tree.specs.Items.{GoalTree, satisfy, minimize, maximize, FunctionTree, declare, constraint, function}
use Rattle.mz_tree.specs.Kinds.{IsSpot, OfTree, OfDeclaration, OfGoal}
use Rattle.mz_tree.proofs.Later.{item_later}
use Rattle.mz_scope_order.specs.Parts.{EnumTree}
use Rattle.mz_scope_order.specs.Scoped.{ScopedTree}
use Rattle.mz_check_exprs.specs.NamedModels.{AreNamed, HasNamedCases, IsNamedFunction}
use Rattle.mz_analysis.specs.Known.{OfEnum, OfFunction, IsWithin}

module _ (count files : ℕ) where
  abbrev N : Name → Type 0
  N n = n < count

  abbrev P : Span → Type 0
  P at = at.file < files

  abbrev Q : Span → Type 0
  Q at = Unit {0}

  tree_later : (e : Tree) → OfTree N P e → OfTree N Q e
  tree_later e h = item_later N N P Q (λ n k. k) (λ s k. tt) (constraint e) h

  declaration_later : (d : Declaration) → OfDeclaration N P d → OfDeclaration N Q d
  declaration_later d h = item_later N N P Q (λ n k. k) (λ s k. tt) (declare d) h

  goal_later : (g : GoalTree) → OfGoal N P g → OfGoal N Q g
  goal_later satisfy h = tt
  goal_later (minimize e) h = tree_later e h
  goal_later (maximize e) h = tree_later e h

  enum_later : (e : EnumTree) → OfEnum N P e → HasNamedCases count e
  enum_later e h = All-weaker (IsSpot N P) (λ c. N c.0) (λ c k. k.0) e.cases h.2

  function_later : (f : FunctionTree) → OfFunction N P f → IsNamedFunction count f
  function_later f h = let later = item_later N N P Q (λ n k. k) (λ s k. tt) (function f) h in record { name = later.0; params = later.3; result = later.2; body = later.4 }

  pub named_model : (s : ScopedTree) → IsWithin count files s → AreNamed count s
  named_model s h = record {
    enums = All-weaker (OfEnum N P) (HasNamedCases count) enum_later s.enums h.enums;
    decls = All-weaker (OfDeclaration N P) (OfDeclaration N Q) declaration_later s.decls h.decls;
    functions = All-weaker (OfFunction N P) (IsNamedFunction count) function_later s.functions h.functions;
    constraints = All-weaker (OfTree N P) (OfTree N Q) tree_later s.constraints h.constraints;
    goal = goal_later s.goal h.goal;
    outputs = All-weaker (OfTree N P) (OfTree N Q) tree_later s.outputs h.outputs;
  }
