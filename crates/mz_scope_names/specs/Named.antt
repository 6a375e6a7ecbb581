-- Occurrences whose names are of a table.
use Rattle.std.specs.Prelude.{ℕ, ◌<◌, All}
use Rattle.mz_tree.specs.Items.{ItemTree}
use Rattle.mz_tree.specs.Kinds.{IsItemWithin}
use Rattle.mz_scope_names.specs.Occurrences.{in_item}

abbrev pub AreNamedAlike : Type 0
AreNamedAlike = (count file : ℕ) (i : ItemTree) → IsItemWithin count file i → All (λ o. o.name < count) (in_item i)
