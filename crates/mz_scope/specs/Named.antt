-- Occurrences whose names are of a table.
use Rattle.std.specs.Prelude.{ℕ, ◌<◌, List, All}
use Rattle.mz_tree.specs.Items.{ItemTree}
use Rattle.mz_tree.specs.Data.{Given}
use Rattle.mz_tree.specs.Named.{IsGivenWithin}
use Rattle.mz_scope_names.specs.Occurrences.{in_item}
use Rattle.mz_scope_names.specs.Given.{occurrences}

-- the names of all occurrences are of the table that has those of the items and of the data
abbrev pub AreAllNamed : Type 0
AreAllNamed = (count : ℕ) (is : List ItemTree) (ds : List Given) → All (λ i. All (λ o. o.name < count) (in_item i)) is → All (IsGivenWithin count) ds → All (λ o. o.name < count) (occurrences is ds)
