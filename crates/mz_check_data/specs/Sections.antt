-- The sections of a model that is typed with its data: those that it has without, with the values of the data.
use Rattle.std.specs.Prelude.{◌≡◌, ℕ, List, Ok}
use Rattle.mz_core.specs.Tree.{Tree}
use Rattle.mz_scope_order.specs.Scoped.{ScopedTree}
use Rattle.mz_check_meaning.specs.Models.{Model}
use Rattle.mz_check_meaning.specs.Checks.{Sections, sections}
use Rattle.mz_check_data.specs.WithData.{given_values, with_values, checked_given}

pub record IsTypedWith (s : ScopedTree) (m : Model) (all : Sections) : Type 0 where
  pub values : List (ℕ × Tree)
  pub before : Sections
  pub given : given_values m s.given ≡ Ok values
  pub typed : sections s m ≡ Ok before
  pub is : all ≡ with_values values before

abbrev pub HasSections : Type 0
HasSections = (s : ScopedTree) (m : Model) (all : Sections) → checked_given s m ≡ Ok all → IsTypedWith s m all
