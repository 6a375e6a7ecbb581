-- Typing with data is typing, where there is no data; and no text literal stands in data.
use Rattle.std.specs.Prelude.{◌≡◌, ℕ, List, [], All, Ok}
use Rattle.mz_core.specs.Tree.{Tree}
use Rattle.mz_tree.specs.Data.{Given}
use Rattle.mz_scope_order.specs.Scoped.{ScopedTree}
use Rattle.mz_scope_order.specs.Subjects.{Subject}
use Rattle.mz_check_meaning.specs.Models.{Model}
use Rattle.mz_check_meaning.specs.Texts.{texts_in}
use Rattle.mz_check_meaning.specs.Checks.{checked}
use Rattle.mz_check_data.specs.WithData.{given_values, checked_with_data}

abbrev pub ChangesNothing : Type 0
ChangesNothing = (texts : List (List ℕ)) (s : ScopedTree) (order : List Subject) → s.given ≡ [] → checked_with_data texts s order ≡ checked texts s order

abbrev pub HasNoTexts : Type 0
HasNoTexts = (m : Model) (gs : List Given) (vs : List (ℕ × Tree)) → given_values m gs ≡ Ok vs → All (λ v. texts_in v.1 ≡ []) vs
