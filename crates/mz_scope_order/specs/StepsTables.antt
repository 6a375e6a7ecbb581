-- Mirror of src/places.rt, src/assigned.rt and src/listing.rt; private clauses only.
use Rattle.std.specs.Prelude.{ℕ, ◌+◌, List, [], ◌∷◌, Option, Some, None, if◌then◌else◌, nat_eq, map, slice_get}
use Rattle.indexmap.specs.IndexMap.{get}
use Rattle.mz_tree.specs.Tree.{Name, Tree, Maybe, maybe}
use Rattle.mz_tree.specs.Views.{tree}
use Rattle.mz_tree.specs.Items.{ItemTree, assign}
use Rattle.mz_tree.specs.Data.{Given, given}
use Rattle.mz_scope_order.specs.declared.first_places.Places.{Places}
use Rattle.mz_scope_order.specs.declared.assigned.Assigned.{Assigned}
use Rattle.mz_scope_order.specs.declared.data_items.Listing.{Listing}

abbrev pub or_next : {T : Type 0} → Option T → Option T → Option T
or_next (Some x) later = Some x
or_next None later = later

-- what stands at a place
abbrev pub at : {T : Type 0} → Option ℕ → List T → Option T
at None xs = None
at (Some k) xs = slice_get xs k

abbrev pub place_found : Places → Name → Option ℕ
place_found p n = get nat_eq p.places n

-- the first place of a name, where the list begins at place k
unfoldable pub place_from : ℕ → Name → List Name → Option ℕ
place_from k n [] = None
place_from k n (m ∷ ms) = if nat_eq n m then Some k else place_from (k + 1) n ms

abbrev pub name_assigned : ItemTree → List Name
name_assigned (assign m s e) = m ∷ []
name_assigned i = []

abbrev pub value_assigned : ItemTree → List Tree
value_assigned (assign m s e) = e ∷ []
value_assigned i = []

-- the value that the table has for a name
abbrev pub value_found : Assigned → Name → Maybe
value_found t n = maybe (at (place_found t.places n) (map (λ e. tree e.now) t.values.items))

-- the item of the data that the table has for a name
abbrev pub item_found : Listing → Name → Option Given
item_found t n = at (place_found t.places n) (map given t.items.now)

unfoldable pub first_given : Name → List Given → Option Given
first_given n [] = None
first_given n (d ∷ ds) = if nat_eq n d.name then Some d else first_given n ds
