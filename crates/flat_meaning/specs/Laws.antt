-- What is found by distinct names.
use Rattle.std.specs.Prelude.{◌≡◌, ℕ, ◌+◌, List, Option, Some, true, slice_get}
use Rattle.mz_instance.specs.Parts.{Sort}
use Rattle.fz_program.specs.Flat.{Variable, ArrayItem, AreDistinct, labels_of, array_labels}
use Rattle.flat_meaning.specs.Reading.{is_shown, shown_from, item_named}

-- a variable is found at its place by its name
abbrev pub VariablesAreFound : Type 0
VariablesAreFound = (sort : Sort) (vs : List Variable) (j k : ℕ) (v : Variable) → AreDistinct (labels_of vs) → slice_get vs k ≡ Some v → is_shown sort v ≡ true → shown_from sort v.label j vs ≡ Some (j + k)

-- and an array by its name
abbrev pub ItemsAreFound : Type 0
ItemsAreFound = (items : List ArrayItem) (k : ℕ) (a : ArrayItem) → AreDistinct (array_labels items) → slice_get items k ≡ Some a → item_named items a.label ≡ Some a
