-- What the steps of comprehensions stand for, under a reading.
use Rattle.std.specs.Prelude.{◌≡◌, MatchOption, Bool, ℕ, ℤ, pos, nat_abs, int_lt, ◌+ℤ◌, ◌-ℤ◌, List, map, drop, Option, Some, None, false, [], ◌++◌, ◌∷◌, if◌then◌else◌}
use Rattle.std.specs.List.{enumerate_from}
use Rattle.mz_value.specs.declared.value.Value.{Value}
use Rattle.mz_value.specs.Contents.{content}
use Rattle.mz_value.specs.Ranges.{Range}
use Rattle.mz_value.specs.Shown.{numbers_from, range_elements, elements}
use Rattle.mz_core.specs.Types.{PlainType}
use Rattle.mz_operations.specs.Arrays.{element_of}
use Rattle.mz_operations.specs.Bounds as bounds
use Rattle.mz_meaning.specs.Cells.{Cell, Var, Mode, guarded, par_value, sealed}
use Rattle.mz_meaning.specs.Comprehensions as comps
use Rattle.mz_meaning.specs.Comprehensions.{Presence, if_given, made_cell, present, set_has, surely}
use Rattle.mz_symbol.specs.Runs.{Run}
use Rattle.mz_symbol.specs.Readings.{Reading, Reads, state_of}
use Rattle.mz_symbol_rows.specs.RowValues.{argument}
use Rattle.mz_eval_cells.specs.declared.types.VarItems.{VarItems}
use Rattle.mz_eval_cells.specs.Views.{known_bound, seen}
use Rattle.mz_eval_comprehensions.specs.Presences.{presence_seen}
use Rattle.mz_eval_guards.specs.Guards.{guard_seen}
use Rattle.mz_eval_arrays.specs.Gathered.{gathered_by}
use Rattle.mz_eval_comprehensions.specs.Drawn.{row_item}
use Rattle.mz_eval_comprehensions.specs.declared.types.Made.{Made}
use Rattle.mz_eval_comprehensions.specs.declared.types.Turn.{Turn}
use Rattle.mz_eval_comprehensions.specs.declared.types.Members.{Members}
use Rattle.mz_eval_comprehensions.specs.declared.types.Members.TheVariants as members
use Rattle.mz_eval_comprehensions.specs.declared.types.Elements.{Elements}
use Rattle.mz_eval_comprehensions.specs.declared.types.Elements.TheVariants as source
use Rattle.mz_eval_comprehensions.specs.declared.types.Turns.{Turns}

-- ---- what is made

abbrev pub made_in : Reading → Made → comps.Made
made_in r m = record { cells = gathered_by (seen r) m.cells; whole = guard_seen r m.whole }

-- one element more
abbrev pub with_element : Mode → Presence → Cell → comps.Made → comps.Made
with_element m p c made = record { cells = made.cells ++ present m p c ∷ []; whole = made.whole }

-- the cell of a comprehension of this type, in braces or in brackets
abbrev pub made_whole : Mode → PlainType → Bool → comps.Made → Cell
made_whole m t braces made = guarded m t made.whole (sealed m t.var t (made_cell m t braces made.cells))

-- ---- the elements of a generator

abbrev pub turn_in : Reading → Turn → comps.Element
turn_in r x = (seen r x.cell, presence_seen r x.presence)

-- a number of a generator's set, as an integer or as a case of an enum
abbrev pub member_in : Reading → Option ℕ → Members → ℤ → comps.Element
member_in r of members.All n = surely (par_value (element_of of n))
member_in r of members.Nowhere n = (par_value (element_of of n), Some (if_given r.mode false))
member_in r of (members.Of s) n = (par_value (element_of of n), Some (if_given r.mode (set_has (argument r s) n)))

abbrev pub value_cell : Value → Cell
value_cell x = par_value (content x)

abbrev pub value_element : Value → comps.Element
value_element x = surely (value_cell x)

-- the elements of a var array, each with its place and its bounds
abbrev pub place_in : Reading → VarItems → ℕ × bounds.Bound → comps.Element
place_in r xs p = surely (Var (bounds.one p.1) (row_item r xs p.0))

abbrev pub elements_of : Reading → Elements → List comps.Element
elements_of r source.Nothing = []
elements_of r (source.Numbers of m s) = map (member_in r of m) (elements s.now)
elements_of r (source.Values xs) = map value_element xs.now
elements_of r (source.Places b o xs) = map (place_in r xs.now) (enumerate_from 0 (map known_bound xs.now.bounds.value.items))

-- ---- the elements of a generator that are left

-- the next of a list, and those after it; nothing where none is left
abbrev pub GivesNext : {A B : Type 0} → (A → B) → Option A → List B → List B → Type 0
GivesNext see o left after = MatchOption o (left ≡ []) (λ x. left ≡ see x ∷ after)

-- the integers above n, up to hi
unfoldable pub above : ℤ → ℤ → List ℤ
above n hi = if int_lt n hi then numbers_from (n +ℤ pos 1) (nat_abs (hi -ℤ n)) else []

-- the numbers of a range that are left where this one was given last, all where none was
abbrev pub range_left : Range → Option ℤ → List ℤ
range_left r None = range_elements r
range_left r (Some n) = above n r.1

-- the numbers of ranges, of which the first one has these left
abbrev pub numbers_left : List Range → Option ℤ → List ℤ
numbers_left [] last = []
numbers_left (r ∷ rs) last = range_left r last ++ elements rs

abbrev pub elements_left : Reading → Elements → ℕ → Option ℤ → List comps.Element
elements_left r source.Nothing i last = []
elements_left r (source.Numbers of m s) i last = map (member_in r of m) (numbers_left (drop i s.now) last)
elements_left r (source.Values xs) i last = map value_element (drop i xs.now)
elements_left r (source.Places b o xs) i last = map (place_in r xs.now) (enumerate_from i (map known_bound (drop i xs.now.bounds.value.items)))

abbrev pub turns_left : Reading → Turns → List comps.Element
turns_left r t = elements_left r t.elements.now t.place t.last

-- THE NEXT OF A LIST OF ELEMENTS, under each reading of the new run; nothing but nodes was made
pub record IsNext (old new : Run) (before after : Reading → List comps.Element) (o : Option Turn) : Type 0 where
  pub same : (r : Reading) → Reads r new → state_of r old ≡ state_of r new
  pub next : (r : Reading) → Reads r new → GivesNext (turn_in r) o (before r) (after r)

-- the next element of a generator
abbrev pub IsNextTurn : Run → Run → Turns → Turns → Option Turn → Type 0
IsNextTurn old new before after o = IsNext old new (λ r. turns_left r before) (λ r. turns_left r after) o
