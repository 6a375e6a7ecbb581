-- Scoped models all of whose names are in the table of names: what may be typed.
use Rattle.std.specs.Prelude.{ℕ, ◌<◌, All}
use Rattle.mz_tree.specs.Tree.{Declaration}
use Rattle.mz_tree.specs.Items.{FunctionTree, GoalTree}
use Rattle.mz_tree.specs.Kinds.{OfDeclaration, OfGoal}
use Rattle.mz_scope_order.specs.Parts.{EnumTree}
use Rattle.mz_scope_order.specs.Scoped.{ScopedTree}
use Rattle.mz_check_exprs.specs.Naming.{IsNamed, IsNamedType}

-- each name of a declaration is below this number
abbrev pub IsNamedDeclaration : ℕ → Declaration → Type 0
IsNamedDeclaration k d = OfDeclaration (λ n. n < k) (λ s. Unit {0}) d

abbrev pub IsNamedGoal : ℕ → GoalTree → Type 0
IsNamedGoal k g = OfGoal (λ n. n < k) (λ s. Unit {0}) g

pub record IsNamedFunction (k : ℕ) (f : FunctionTree) : Type 0 where
  pub name : f.name < k
  pub params : All (IsNamedDeclaration k) f.params
  pub result : IsNamedType k f.result
  pub body : IsNamed k f.body

abbrev pub HasNamedCases : ℕ → EnumTree → Type 0
HasNamedCases k e = All (λ c. c.0 < k) e.cases

-- each name of a scoped model is one of this many
pub record AreNamed (k : ℕ) (s : ScopedTree) : Type 0 where
  pub enums : All (HasNamedCases k) s.enums
  pub decls : All (IsNamedDeclaration k) s.decls
  pub functions : All (IsNamedFunction k) s.functions
  pub constraints : All (IsNamed k) s.constraints
  pub goal : IsNamedGoal k s.goal
  pub outputs : All (IsNamed k) s.outputs
