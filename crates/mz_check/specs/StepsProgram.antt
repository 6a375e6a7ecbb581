-- Typed sections of which a program is made. Mirror of src/program.rt; private clauses only.
use Rattle.std.specs.Prelude.{ℕ, ◌<◌, List, All, map}
use Rattle.mz_base.specs.Names.{text_of}
use Rattle.mz_scope_order.specs.Parts.{EnumTree}
use Rattle.mz_check_meaning.specs.Texts.{texts_in, in_decl, in_function, in_goal}
use Rattle.mz_check_meaning.specs.Checks.{Sections}

abbrev pub case_texts : List (List ℕ) → EnumTree → List (List ℕ)
case_texts table e = map (λ c. text_of table c.0) e.cases

abbrev pub AreBelow : ℕ → List ℕ → Type 0
AreBelow k ns = All (λ n. n < k) ns

-- the names of all texts are below this number
pub record AreTexted (k : ℕ) (all : Sections) : Type 0 where
  pub decls : All (λ d. AreBelow k (in_decl d)) all.decls
  pub functions : All (λ f. AreBelow k (in_function f)) all.functions
  pub constraints : All (λ e. AreBelow k (texts_in e)) all.constraints
  pub goal : AreBelow k (in_goal all.goal)
  pub outputs : All (λ e. AreBelow k (texts_in e)) all.outputs
