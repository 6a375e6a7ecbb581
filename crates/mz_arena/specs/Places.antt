-- The places of a table's lists. Private clauses only.
use Rattle.std.specs.Prelude.{◌≡◌, ℕ, ◌<◌, List, [], length, map, slice_get, Bool, true, Some}
use Rattle.mz_value.specs.Ranges.{Range}
use Rattle.mz_interval.specs.Ends.{Ends}
use Rattle.mz_interval.specs.Interval.{ends}
use Rattle.mz_arena_blocks.specs.Lists.{list_at}
use Rattle.mz_arena.specs.declared.table.Reach.{Reach}
use Rattle.mz_arena.specs.declared.table.Stored.{Stored}
use Rattle.mz_arena.specs.declared.table.Table.{Table}
use Rattle.mz_arena.specs.Entries.{Entry, children}
use Rattle.mz_arena.specs.Extents.{Known, node_extent, extent}
use Rattle.mz_arena.specs.Tables.{seen, entries, known, wholes_in, subsets_in, has_wholes, has_subsets}

-- the list at a place
abbrev pub wholes_listed : Table → ℕ → List Ends
wholes_listed t k = map ends (list_at t.wholes k)

abbrev pub subsets_listed : Table → ℕ → List (List Range)
subsets_listed t k = list_at t.subsets k

-- a place at which these elements are
pub record HasPlace {E : Type 0} (listed : ℕ → List E) (count k : ℕ) (elements : List E) : Type 0 where
  pub within : k < count
  pub is : listed k ≡ elements

-- each list with an element has its place, and the empty list is at 0
pub record AreListed {E : Type 0} (has : Reach → Bool) (elements : Known → List E) (es : List Entry) (stored : List Stored) (listed : ℕ → List E) (count : ℕ) : Type 0 where
  pub some : 0 < count
  pub empty : listed 0 ≡ []
  pub each : (id : ℕ) (s : Stored) → slice_get stored id ≡ Some s → has s.reach ≡ true → HasPlace listed count s.place (elements (extent es id))

pub record IsListedTable (t : Table) : Type 0 where
  pub wholes : AreListed has_wholes wholes_in (entries t.sets.items t.stored.items) t.stored.items (wholes_listed t) (length t.wholes)
  pub subsets : AreListed has_subsets subsets_in (entries t.sets.items t.stored.items) t.stored.items (subsets_listed t) (length t.subsets)

-- the list that a node is to be has its place
pub record HasPlaces (t : Table) (s : Stored) : Type 0 where
  pub wholes : has_wholes s.reach ≡ true → HasPlace (wholes_listed t) (length t.wholes) s.place (wholes_in (node_extent (seen t.sets.items s) (map (known t) (children s.node))))
  pub subsets : has_subsets s.reach ≡ true → HasPlace (subsets_listed t) (length t.subsets) s.place (subsets_in (node_extent (seen t.sets.items s) (map (known t) (children s.node))))
