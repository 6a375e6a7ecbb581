-- Functions that are declared twice, found among those of one name. Mirror of src/duplicates.rt; private clauses only.
use Rattle.std.specs.Prelude.{ℕ, Bool, true, false, ◌||◌, List, Option, Some, Ok}
use Rattle.std.specs.List.{list_any}
use Rattle.mz_base.specs.Names.{text_of}
use Rattle.mz_core.specs.Types.{PlainType}
use Rattle.mz_tree.specs.Tree.{Name}
use Rattle.mz_check_meaning.specs.Tests.{Test}
use Rattle.mz_check_meaning.specs.Models.{Model, Heading, signature_of, entry_of}
use Rattle.mz_check_meaning.specs.Calls.{rows_for}
use Rattle.mz_check_meaning.specs.Duplicates.{same_types, has_params}

abbrev pub is_row_with : List ℕ → List PlainType → Bool
is_row_with text params = list_any (has_params params) (rows_for true text params)

abbrev pub has_types : List PlainType → Option (Test Heading) → Bool
has_types params (Some (Ok h)) = same_types params (signature_of h).params
has_types params h = false

abbrev pub is_taken_before : Model → List ℕ → List PlainType → Bool
is_taken_before m numbers params = list_any (λ k. has_types params (entry_of k m.headings)) numbers

abbrev pub is_taken_with : Model → List ℕ → Name → List PlainType → Bool
is_taken_with m before n params = is_taken_before m before params || is_row_with (text_of m.texts n) params

abbrev pub taken_by : Model → List ℕ → Name → Option (Test Heading) → Bool
taken_by m before n (Some (Ok h)) = is_taken_with m before n (signature_of h).params
taken_by m before n h = false

abbrev pub taken_at : Model → List ℕ → Name → ℕ → Bool
taken_at m before n f = taken_by m before n (entry_of f m.headings)
