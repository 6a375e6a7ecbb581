-- Mirror of src/places.rt and src/elements.rt; private clauses only.
use Rattle.std.specs.Prelude.{◌≡◌, ℕ, Bool, true, List, map, Option, None, Some, slice_get, if◌then◌else◌}
use Rattle.std.specs.Option.{option_and_then, option_map}
use Rattle.mz_value.specs.Ranges.{Range}
use Rattle.mz_value.specs.Contents.{Content}
use Rattle.mz_core.specs.declared.types.Base.{Base}
use Rattle.mz_arena.specs.Values.{is_true}
use Rattle.mz_index.specs.Places.{place_of}
use Rattle.mz_meaning.specs.Arrays.{accessed, indices_in}
use Rattle.mz_meaning.specs.Cells.{all_par, held, value_of}
use Rattle.mz_symbol.specs.declared.types.Symbol.{Symbol}
use Rattle.mz_symbol.specs.Runs.{Run}
use Rattle.mz_symbol.specs.Readings.{Reading, Reads}
use Rattle.mz_eval_cells.specs.declared.types.Known.{Known}
use Rattle.mz_eval_cells.specs.declared.types.Origins.{Origins}
use Rattle.mz_eval_cells.specs.declared.types.VarItems.{VarItems}
use Rattle.mz_eval_cells.specs.Views.{all_seen, cells_of, origins_value, row_content, seen}
use Rattle.mz_eval_symbols.specs.Steps.{argued, item_cast}
use Rattle.mz_eval_access.specs.Places.{list_ranges}
use Rattle.mz_eval_arrays.specs.ArrayCells.{counted, is_counted}
use Rattle.mz_eval_elements.specs.ElementCells.{element_value}

-- a value at a node of this base, an option or not
abbrev pub at_kind : Reading → Base → Bool → Option Content → Option Content
at_kind r b o v = held r.mode (counted (is_counted b o) v)

abbrev pub counted_seen : Base → Bool → Reading → Known → Option Content
counted_seen b o r k = at_kind r b o (value_of (seen r k))

-- the value of a cell where a node is true
abbrev pub guarded_seen : Reading → Base → Bool → ℕ → Known → Option Content
guarded_seen r b o d k = at_kind r b o (if is_true (r.term d) then value_of (seen r k) else None)

-- the element at a place, from 0
abbrev pub in_place : ℕ → Option (List Content) → Option Content
in_place n v = option_and_then (λ xs. slice_get xs n) v

-- the element of a line at a place, recast where a base is told
abbrev pub item_at : Reading → Base → Bool → Option Base → ℕ → ℕ → Option Content
item_at r b o c k n = at_kind r b o (option_map (item_cast c) (in_place n (r.line k)))

-- the same of what tells an array's elements
abbrev pub origins_item : Reading → Base → Bool → Option Base → Origins → ℕ → Option Content
origins_item r b o c og n = at_kind r b o (option_map (item_cast c) (in_place n (origins_value r.line og)))

-- the element of a var array at indices
abbrev pub row_element : Reading → Base → Bool → List Range → VarItems → List Known → Option Content
row_element r b o ix xs at = at_kind r b o (accessed (held r.mode (row_content r.line ix xs)) (map value_of (all_seen r at)))

-- under each reading of a run what stands at this place of an array is this symbol's value, recast where a base is told
abbrev pub IsSureItemOf : Run → VarItems → ℕ → Symbol × Option Base → Type 0
IsSureItemOf s xs n y = (r : Reading) → Reads r s → (b : Base) (o : Bool) → origins_item r b o xs.cast xs.origins n ≡ at_kind r b o (option_map (item_cast y.1) (argued r.term y.0))

-- the same of an array's element at indices of this place
abbrev pub IsSureItem : Run → Known → ℕ → Symbol × Option Base → Type 0
IsSureItem s a n y = (r : Reading) → Reads r s → (b : Base) (o : Bool) (at : List Known) → all_par (cells_of at) ≡ true → option_and_then (place_of (list_ranges a)) (indices_in (map value_of (cells_of at))) ≡ Some n
    → element_value r b o a at ≡ at_kind r b o (option_map (item_cast y.1) (argued r.term y.0))
