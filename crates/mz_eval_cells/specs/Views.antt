-- What cells in code stand for: without values, and under a reading.
use Rattle.std.specs.Prelude.{ℕ, Bool, true, false, List, map, Option, Some, None}
use Rattle.std.specs.Option.{option_map}
use Rattle.mz_value.specs.Ranges.{Range}
use Rattle.mz_value.specs.Contents.{Content, content, contents, text_bytes}
use Rattle.mz_value.specs.Contents as values
use Rattle.mz_core.specs.declared.types.Base.{Base}
use Rattle.mz_operations.specs.Bounds as bounds
use Rattle.mz_arena.specs.Values.{Term, is_true}
use Rattle.mz_meaning.specs.Cells as cells
use Rattle.mz_meaning.specs.Cells.{Cell, Par, Var, Unshaped, Test, Settled, Open, Mode, Bare, held}
use Rattle.mz_meaning.specs.Coerced.{recast_all}
use Rattle.mz_symbol.specs.Symbols.{symbol_value}
use Rattle.mz_symbol.specs.Readings.{Reading, blank}
use Rattle.mz_symbol.specs.Arguments.{as_argument}
use Rattle.mz_eval_cells.specs.declared.types.Item.{Item}
use Rattle.mz_eval_cells.specs.declared.types.Item.TheVariants as item
use Rattle.mz_eval_cells.specs.declared.types.Bound.{Bound}
use Rattle.mz_eval_cells.specs.declared.types.Bound.TheVariants as bound
use Rattle.mz_eval_cells.specs.declared.types.Bounds.{Bounds}
use Rattle.mz_eval_cells.specs.declared.types.Bounds.TheVariants as all
use Rattle.mz_eval_cells.specs.declared.types.Origin.{Origin}
use Rattle.mz_eval_cells.specs.declared.types.Origin.TheVariants as origin
use Rattle.mz_eval_cells.specs.declared.types.Origins.{Origins}
use Rattle.mz_eval_cells.specs.declared.types.Origins.TheVariants as origins
use Rattle.mz_eval_cells.specs.declared.types.VarValue.{VarValue}
use Rattle.mz_eval_cells.specs.declared.types.VarItems.{VarItems}
use Rattle.mz_eval_cells.specs.declared.types.Known.{Known}
use Rattle.mz_eval_cells.specs.declared.types.Known.TheVariants as known
use Rattle.mz_eval_cells.specs.declared.types.Sure.{Sure}

abbrev pub known_bound : Bound → bounds.Bound
known_bound (bound.Number l h) = bounds.number (l, h)
known_bound (bound.Sets l u) = bounds.sets l.value u.value

abbrev pub known_bounds : Bounds → bounds.Bounds
known_bounds (all.One b) = bounds.one (known_bound b)
known_bounds (all.Many ix bs) = bounds.many ix.value.items (map known_bound bs.value.items)

abbrev pub item_content : Item → Content
item_content (item.Bool b) = values.bool b
item_content (item.Int n) = values.int n
item_content (item.Enum e k) = values.case e k
item_content item.Absent = values.absent
item_content (item.Set s) = values.set s.value.of s.value.ranges
item_content (item.Text t) = values.text (text_bytes t.value)

abbrev pub array_of : List Range → Option (List Content) → Option Content
array_of ix None = None
array_of ix (Some xs) = Some (values.array ix (contents xs))

-- ---- what tells the values of var cells

-- a truth value by two nodes: true where the first is, else false where the second is true, else undefined
abbrev pub truth_by : Bool → Bool → Option Content
truth_by true d = Some (values.bool true)
truth_by false true = Some (values.bool false)
truth_by false false = None

abbrev pub origin_value : (ℕ → Term) → Origin → Option Content
origin_value t origin.Nothing = None
origin_value t (origin.Item i) = Some (item_content i)
origin_value t (origin.Symbol s) = as_argument s.base s.occurs (symbol_value t s)
origin_value t (origin.Truth y d) = truth_by (is_true (t y)) (is_true (t d))

abbrev pub origins_value : (ℕ → Option (List Content)) → Origins → Option (List Content)
origins_value l origins.Nothing = None
origins_value l (origins.Values xs) = Some (map content xs.value.items)
origins_value l (origins.Line k) = l k

abbrev pub cast_by : Option Base → Option Content → Option Content
cast_by None v = v
cast_by (Some b) v = option_map (recast_all b) v

abbrev pub var_content : (ℕ → Term) → VarValue → Option Content
var_content t x = cast_by x.cast (origin_value t x.origin)

abbrev pub row_content : (ℕ → Option (List Content)) → List Range → VarItems → Option Content
row_content l ix xs = cast_by xs.cast (array_of ix (origins_value l xs.origins))

-- ---- cells

-- under a mode, the terms of ids, and the elements of arrays by their numbers
abbrev pub cell_by : Mode → (ℕ → Term) → (ℕ → Option (List Content)) → Known → Cell
cell_by m t l known.Undefined = Par None
cell_by m t l (known.One i) = Par (Some (item_content i))
cell_by m t l (known.Array ix xs) = Par (Some (values.array ix.value.items (contents (map content xs.value.items))))
cell_by m t l (known.Var x) = Var (bounds.one (known_bound x.value.bound)) (held m (var_content t x.value))
cell_by m t l (known.Row ix xs) = Var (bounds.many ix.value.items (map known_bound xs.value.bounds.value.items)) (held m (row_content l ix.value.items xs.value))
cell_by m t l (known.Unshaped d) = Unshaped d

-- without values
abbrev pub cell_of : Known → Cell
cell_of k = cell_by Bare blank.term blank.line k

-- under a reading
abbrev pub seen : Reading → Known → Cell
seen r k = cell_by r.mode r.term r.line k

abbrev pub all_seen : Reading → List Known → List Cell
all_seen r ks = map (seen r) ks

abbrev pub cells_of : List Known → List Cell
cells_of ks = map cell_of ks

abbrev pub sure_of : Sure → cells.Sure
sure_of s = record { par = s.par; is = s.is }

abbrev pub test_if : Option Bool → Test
test_if None = Open
test_if (Some b) = Settled b
