-- What the code keeps of the nodes. Private clauses only.
use Rattle.std.specs.Prelude.{◌≡◌, ℕ, ◌<◌, ◌≤◌, List, [], ◌∷◌, ◌++◌, map, length, slice_get, slice_index_or, Bool, true, false, Option, Some, None, nat_abs, pos, if◌then◌else◌}
use Rattle.mz_value.specs.Ranges.{Range}
use Rattle.mz_operations.specs.Laws.{IsSet}
use Rattle.mz_interval.specs.Ends.{Ends}
use Rattle.mz_interval.specs.Interval.{ends}
use Rattle.mz_interval.specs.declared.interval.Interval.{Interval}
use Rattle.mz_operations.specs.declared.row.SetOp.{SetOp}
use Rattle.mz_arena_blocks.specs.Lists.{list_at}
use Rattle.mz_arena.specs.declared.node.Node.{Node}
use Rattle.mz_arena.specs.declared.node.NodeKind.{NodeKind}
use Rattle.mz_arena.specs.declared.node.NodeKind.TheVariants.{Cons, SetConst, If, Access, Union, Intersect, Symdiff}
use Rattle.mz_arena.specs.declared.node.Sort.{Sort}
use Rattle.mz_arena.specs.declared.node.Sort.TheVariants as sort
use Rattle.mz_arena.specs.declared.table.Reach.{Reach}
use Rattle.mz_arena.specs.declared.table.Reach.TheVariants.{Whole, Truth, Subset, Wholes, Truths, Subsets, Empty}
use Rattle.mz_arena.specs.declared.table.Single.{Single}
use Rattle.mz_arena.specs.declared.table.Single.TheVariants as single
use Rattle.mz_arena.specs.declared.table.Row.{Row}
use Rattle.mz_arena.specs.declared.table.Row.TheVariants as row
use Rattle.mz_arena.specs.declared.table.Stored.{Stored}
use Rattle.mz_arena.specs.declared.table.Table.{Table}
use Rattle.mz_arena.specs.Entries.{Entry, entry, children, AllBelow, is_set_const, is_free, is_local}
use Rattle.mz_arena.specs.Terms.{own_id}
use Rattle.mz_arena.specs.Numbering.{local_ids}
use Rattle.mz_arena.specs.Extents.{Known, whole, truth, subset, wholes, truths, subsets, empty, as_whole, as_subset, as_single, as_list, set_extent, node_extent, extent}
use Rattle.mz_arena.specs.Arenas.{IsArena, IsSetConst}

-- the arena's sets
abbrev pub Sets : Type 0
Sets = List (List Range)

abbrev pub set_at : Sets → ℕ → List Range
set_at sets k = slice_index_or sets k []

-- the place of a SetConst's set
abbrev pub set_place : Node → ℕ
set_place n = nat_abs n.number

abbrev pub set_in : Sets → Node → List Range
set_in sets n = if is_set_const n.kind then set_at sets (set_place n) else []

abbrev pub seen : Sets → Stored → Entry
seen sets s = record { node = s.node; set = set_in sets s.node }

-- what contracts see
unfoldable pub entries : Sets → List Stored → List Entry
entries sets stored = map (seen sets) stored

abbrev pub wholes_in : Known → List Ends
wholes_in (Some (wholes es)) = es
wholes_in _ = []

abbrev pub subsets_in : Known → List (List Range)
subsets_in (Some (subsets us)) = us
subsets_in _ = []

-- the set at a place of the table
pub record IsSubset (sets : Sets) (place : ℕ) (x : Known) : Type 0 where
  pub within : place < length sets
  pub is : x ≡ Some (subset (set_at sets place))

-- what is kept of a node tells its bounds
abbrev pub Tells : Sets → Reach → Known → Type 0
Tells sets (Whole i) x = x ≡ Some (whole (ends i))
Tells sets (Truth i) x = x ≡ Some (truth (ends i))
Tells sets (Subset k) x = IsSubset sets k x
Tells sets Wholes x = x ≡ Some (wholes (wholes_in x))
Tells sets Truths x = x ≡ Some truths
Tells sets Subsets x = x ≡ Some (subsets (subsets_in x))
Tells sets Empty x = x ≡ Some empty

abbrev pub TellsAny : Sets → Option Reach → Known → Type 0
TellsAny sets None x = x ≡ None
TellsAny sets (Some r) x = Tells sets r x

-- a list with an element
abbrev pub is_long : Reach → Bool
is_long Wholes = true
is_long Subsets = true
is_long _ = false

-- what holds of a table at all times
pub record IsSound (sets : Sets) (stored : List Stored) : Type 0 where
  pub arena : IsArena (entries sets stored)
  pub tells : (id : ℕ) (s : Stored) → slice_get stored id ≡ Some s → Tells sets s.reach (extent (entries sets stored) id)
  pub long : (id : ℕ) (s : Stored) → slice_get stored id ≡ Some s → is_long s.reach ≡ true → s.node.kind ≡ Cons
  pub consts : (id : ℕ) (s : Stored) → slice_get stored id ≡ Some s → is_set_const s.node.kind ≡ true → set_place s.node < length sets
  pub canonical : (k : ℕ) (s : List Range) → slice_get sets k ≡ Some s → IsSet s

-- what a reach tells by itself
abbrev pub whole_in : Option Reach → Option Ends
whole_in (Some (Whole i)) = Some (ends i)
whole_in _ = None

abbrev pub truth_in : Option Reach → Option Ends
truth_in (Some (Truth i)) = Some (ends i)
truth_in _ = None

abbrev pub subset_place : Option Reach → Option ℕ
subset_place (Some (Subset k)) = Some k
subset_place _ = None

-- a set at a place of the table, where the node is a set
abbrev pub IsPlaced : Sets → Option ℕ → Option (List Range) → Type 0
IsPlaced sets None u = u ≡ None
IsPlaced sets (Some k) u = (k < length sets) × (u ≡ Some (set_at sets k))

-- the elements of a list of integers with this id
abbrev pub wholes_at : Sets → List Stored → ℕ → List Ends
wholes_at sets stored id = wholes_in (extent (entries sets stored) id)

abbrev pub subsets_at : Sets → List Stored → ℕ → List (List Range)
subsets_at sets stored id = subsets_in (extent (entries sets stored) id)

-- the first element of a list and the rest, where there is one
abbrev pub SplitsWholes : Sets → List Stored → ℕ → Option (Interval × ℕ) → Type 0
SplitsWholes sets stored id None = wholes_at sets stored id ≡ []
SplitsWholes sets stored id (Some p) = wholes_at sets stored id ≡ ends p.0 ∷ wholes_at sets stored p.1

-- a list of integers, of Booleans, of sets; the empty list is each of these
abbrev pub is_whole_list : Option Reach → Bool
is_whole_list (Some Wholes) = true
is_whole_list (Some Empty) = true
is_whole_list _ = false

abbrev pub is_truth_list : Option Reach → Bool
is_truth_list (Some Truths) = true
is_truth_list (Some Empty) = true
is_truth_list _ = false

abbrev pub is_subset_list : Option Reach → Bool
is_subset_list (Some Subsets) = true
is_subset_list (Some Empty) = true
is_subset_list _ = false

-- a list of integers with an element, of sets with an element
abbrev pub has_wholes : Reach → Bool
has_wholes Wholes = true
has_wholes _ = false

abbrev pub has_subsets : Reach → Bool
has_subsets Subsets = true
has_subsets _ = false

-- the node of a list with an element: a Cons, with the bounds of its first element and of the rest
pub record HasWholes (sets : Sets) (stored : List Stored) (id : ℕ) (n : Node) : Type 0 where
  pub smaller : n.b < id
  pub head : Ends
  pub is_head : as_whole (extent (entries sets stored) n.a) ≡ Some head
  pub all : wholes_at sets stored id ≡ head ∷ wholes_at sets stored n.b

-- ---- of a table

abbrev pub known : Table → ℕ → Known
known t id = extent (entries t.sets.items t.stored.items) id

abbrev pub IsSoundTable : Table → Type 0
IsSoundTable t = IsSound t.sets.items t.stored.items

abbrev pub TellsIn : Table → Option Reach → Known → Type 0
TellsIn t r x = TellsAny t.sets.items r x

abbrev pub wholes_of : Table → ℕ → List Ends
wholes_of t id = wholes_at t.sets.items t.stored.items id

abbrev pub subsets_of : Table → ℕ → List (List Range)
subsets_of t id = subsets_at t.sets.items t.stored.items id

-- a node over the bounds of its children
abbrev pub asked : Table → Node → Known
asked t n = node_extent (entry n) (map (known t) (children n))

-- lists that were added
pub record HasLists {T : Type 0} (old new : List (List T)) : Type 0 where
  pub longer : length old ≤ length new
  pub same : (k : ℕ) → k < length old → list_at new k ≡ list_at old k

-- sets and lists that were put into a table, of which all else stays
pub record IsKept (old new : Table) : Type 0 where
  pub wholes : HasLists old.wholes new.wholes
  pub subsets : HasLists old.subsets new.subsets
  pub stored : new.stored.items ≡ old.stored.items
  pub entries : entries new.sets.items new.stored.items ≡ entries old.sets.items old.stored.items
  pub sound : IsSoundTable new

-- the kinds whose nodes may need a new set
abbrev pub is_plain : NodeKind → Bool
is_plain If = false
is_plain Access = false
is_plain Union = false
is_plain Intersect = false
is_plain Symdiff = false
is_plain _ = true

-- ---- a node that is no list, and a list

abbrev pub single_in : Option Reach → Option Single
single_in (Some (Whole i)) = Some (single.Whole i)
single_in (Some (Truth i)) = Some (single.Truth i)
single_in (Some (Subset k)) = Some (single.Subset k)
single_in _ = None

abbrev pub row_in : Option Reach → Option Row
row_in (Some Wholes) = Some row.Wholes
row_in (Some Truths) = Some row.Truths
row_in (Some Subsets) = Some row.Subsets
row_in (Some Empty) = Some row.Empty
row_in _ = None

abbrev pub TellsSingle : Table → Option Single → Known → Type 0
TellsSingle t None x = as_single x ≡ None
TellsSingle t (Some (single.Whole i)) x = x ≡ Some (whole (ends i))
TellsSingle t (Some (single.Truth i)) x = x ≡ Some (truth (ends i))
TellsSingle t (Some (single.Subset k)) x = IsSubset t.sets.items k x

abbrev pub TellsRow : Option Row → Known → Type 0
TellsRow None x = as_list x ≡ None
TellsRow (Some row.Wholes) x = x ≡ Some (wholes (wholes_in x))
TellsRow (Some row.Truths) x = x ≡ Some truths
TellsRow (Some row.Subsets) x = x ≡ Some (subsets (subsets_in x))
TellsRow (Some row.Empty) x = x ≡ Some empty

-- what is kept is no list with an element
abbrev pub IsShort : Option Reach → Type 0
IsShort None = Unit {0}
IsShort (Some r) = is_long r ≡ false

-- a list with an element is a Cons
abbrev pub IsLongCons : NodeKind → Option Reach → Type 0
IsLongCons k None = Unit {0}
IsLongCons k (Some r) = is_long r ≡ true → k ≡ Cons

-- a set at a place of a table
pub record IsPut (t : Table) (k : ℕ) (s : List Range) : Type 0 where
  pub within : k < length t.sets.items
  pub is : set_at t.sets.items k ≡ s

-- the greatest sets of two sets
pub record ArePlaced (t : Table) (k m : ℕ) (x y : Known) : Type 0 where
  pub first : k < length t.sets.items
  pub second : m < length t.sets.items
  pub is_first : as_subset x ≡ Some (set_at t.sets.items k)
  pub is_second : as_subset y ≡ Some (set_at t.sets.items m)

abbrev pub IsPair : Table → Option (ℕ × ℕ) → Known → Known → Type 0
IsPair t None x y = (op : SetOp) → set_extent op x y ≡ None
IsPair t (Some p) x y = ArePlaced t p.0 p.1 x y

-- a node with its bounds that may be put into a table
pub record IsReady (sets : Sets) (stored : List Stored) (s : Stored) : Type 0 where
  pub below : AllBelow (length (entries sets stored)) (children s.node)
  pub told : Tells sets s.reach (node_extent (seen sets s) (map (extent (entries sets stored)) (children s.node)))
  pub long : is_long s.reach ≡ true → s.node.kind ≡ Cons
  pub const : is_set_const s.node.kind ≡ true → set_place s.node < length sets
  pub own : is_free s.node.kind ≡ true → own_id s.node ≡ length (entries sets stored)
  pub domain : is_free s.node.kind ≡ true → IsSetConst (entries sets stored) s.node.a
  pub next : is_local s.node.kind ≡ true → s.node.b ≡ length (local_ids (entries sets stored))

-- a node that was put into a table, last
pub record IsPushed (old new : Table) (s : Stored) (id : ℕ) : Type 0 where
  pub place : id ≡ length (entries old.sets.items old.stored.items)
  pub entries : entries new.sets.items new.stored.items ≡ entries old.sets.items old.stored.items ++ seen old.sets.items s ∷ []

abbrev pub sort_in : Option Reach → Option Sort
sort_in (Some (Whole i)) = Some sort.Integer
sort_in (Some (Truth i)) = Some sort.Boolean
sort_in (Some (Subset k)) = Some sort.Set
sort_in (Some _) = Some sort.List
sort_in None = None

abbrev pub interval_in : Option Reach → Option Ends
interval_in (Some (Whole i)) = Some (ends i)
interval_in (Some (Truth i)) = Some (ends i)
interval_in _ = None

-- the SetConst of a set of the table
abbrev pub const_node : ℕ → Node
const_node place = record { kind = SetConst; a = 0; b = 0; c = 0; number = pos place }

pub record IsPushedConst (old new : Table) (place id : ℕ) : Type 0 where
  pub last : id ≡ length (entries old.sets.items old.stored.items)
  pub pushed : entries new.sets.items new.stored.items ≡ entries old.sets.items old.stored.items ++ record { node = const_node place; set = set_at old.sets.items place } ∷ []
