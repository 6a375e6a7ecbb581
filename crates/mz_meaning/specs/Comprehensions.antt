-- Comprehensions: generators over sets and arrays, par and var; `where`; and the elements that may be absent.
use Rattle.std.specs.Prelude.{ℕ, ℤ, Bool, true, false, not, ◌&&◌, ◌||◌, List, [], ◌∷◌, ◌++◌, map, slice_get, Option, Some, None}
use Rattle.std.specs.Option.{option_and_then}
use Rattle.std.specs.List.{enumerate_from}
use Rattle.mz_base.specs.declared.fault.Span.{Span}
use Rattle.mz_value.specs.Ranges.{Range}
use Rattle.mz_value.specs.Contents.{Content}
use Rattle.mz_value.specs.Contents as values
use Rattle.mz_value.specs.Shown.{elements}
use Rattle.mz_core.specs.declared.types.Base.{Base}
use Rattle.mz_core.specs.Types.{PlainType}
use Rattle.mz_core.specs.Tree.{Tree, Gen, type_of}
use Rattle.mz_operations.specs.Views.{as_set, as_items, items_in}
use Rattle.mz_operations.specs.Sets.{contains}
use Rattle.mz_operations.specs.Arrays.{element_of}
use Rattle.mz_operations.specs.Bounds.{Bound, Bounds}
use Rattle.mz_operations.specs.Bounds as bounds
use Rattle.mz_meaning.specs.Runs.{Run, ◌>>=◌, ◌>>◌, give, spend, loop}
use Rattle.mz_meaning.specs.Cells.{Cell, Par, Var, Unshaped, Mode, Blank, Given, held, Env, bind, Test, Settled, Open, test_of, is_true, value_of, par_value, bounds_in, Sure, sure, both_sure, sealed, guarded, there}
use Rattle.mz_meaning.specs.Coerced.{enum_in}
use Rattle.mz_meaning.specs.Arrays.{line_cell, set_cell}
use Rattle.mz_meaning.specs.Contexts.{Context, elsewhere}
use Rattle.mz_meaning.specs.Forms.{World, Eval, done}

-- whether an element occurs: None where it surely does
abbrev pub Presence : Type 0
Presence = Option Bool

abbrev pub both_occur : Presence → Presence → Presence
both_occur None q = q
both_occur (Some a) None = Some a
both_occur (Some a) (Some b) = Some (a && b)

-- what is made so far, and whether all sets that count are there
pub record Made : Type 0 where
  pub cells : List Cell
  pub whole : Sure

abbrev pub nothing_made : Made
nothing_made = record { cells = []; whole = sure }

-- what follows for one element of the generators before
abbrev pub Rest : Type 0
Rest = Env → Presence → Made → Run Made

-- ---- what is read of values that only a given run has

abbrev pub if_given : Mode → Bool → Bool
if_given (Blank n) b = false
if_given (Given f) b = b

-- ---- the elements of a generator

abbrev pub Element : Type 0
Element = Cell × Presence

abbrev pub surely : Cell → Element
surely c = (c, None)

-- a number as one of the set's elements: a case where the set is one of an enum
abbrev pub element_cell : Base → ℤ → Cell
element_cell b n = par_value (element_of (enum_in b) n)

abbrev pub set_elements : Base → Option Content → List Element
set_elements b None = []
set_elements b (Some (values.set of rs)) = map (λ n. surely (element_cell b n)) (elements rs)
set_elements b (Some (values.array ix xs)) = map (λ x. surely (par_value x)) (items_in xs)
set_elements b (Some _) = []

abbrev pub has_number : Option (List Range) → ℤ → Bool
has_number None n = false
has_number (Some rs) n = contains rs n

abbrev pub set_has : Option Content → ℤ → Bool
set_has v n = has_number (option_and_then as_set v) n

-- each number of the greatest set that a var set may be; it occurs where the set has it
abbrev pub member : Mode → Base → Option Content → ℤ → Element
member m b v n = (element_cell b n, Some (if_given m (set_has v n)))

abbrev pub item_of : Option Content → ℕ → Option Content
item_of v k = option_and_then (λ xs. slice_get xs k) (option_and_then as_items v)

-- each place of a var array
abbrev pub place_cell : Mode → Option Content → ℕ × Bound → Element
place_cell m v p = surely (Var (bounds.one p.1) (held m (item_of v p.0)))

abbrev pub var_elements : Mode → Base → Bounds → Option Content → List Element
var_elements m b (bounds.one (bounds.sets l u)) v = map (member m b v) (elements u)
var_elements m b (bounds.one (bounds.number e)) v = []
var_elements m b (bounds.many ix bs) v = map (place_cell m v) (enumerate_from 0 bs)

-- A GENERATOR RUNS OVER a set's elements, ascending, of a var set over those that it may have; or over an array's elements
abbrev pub elements_in : Mode → Base → Cell → List Element
elements_in m b (Par v) = set_elements b v
elements_in m b (Var e v) = var_elements m b e v
elements_in m b (Unshaped d) = []

-- ---- the head

abbrev pub absent_unless : Bool → Option Content → Option Content
absent_unless true v = v
absent_unless false v = Some values.absent

-- AN ELEMENT IS ABSENT where it doesn't occur, and then its own definedness doesn't count
abbrev pub present : Mode → Presence → Cell → Cell
present m None c = c
present m (Some b) c = Var (bounds_in c) (held m (absent_unless b (value_of c)))

abbrev pub added : Mode → Eval → Context → Tree → Rest
added m go ctx head env occurs made = do
  c ← go ctx head env
  give (record { cells = made.cells ++ present m occurs c ∷ []; whole = made.whole })

-- ---- `where`: a par one that is false drops the element, and nothing after it is evaluated; a var one makes the element's presence

abbrev pub filtered : Mode → Rest → Env → Presence → Made → Cell → Test → Run Made
filtered m rest env occurs made c (Settled true) = rest env occurs made
filtered m rest env occurs made c (Settled false) = give made
filtered m rest env occurs made c Open = rest env (both_occur occurs (Some (if_given m (is_true (value_of c))))) made

abbrev pub where_ : Mode → Eval → Context → Option Tree → Rest → Rest
where_ m go ctx None rest env occurs made = rest env occurs made
where_ m go ctx (Some e) rest env occurs made = do
  c ← go (elsewhere ctx) e env
  filtered m rest env occurs made c (test_of c)

-- ---- generators: a set is evaluated once for its names, of which the first varies slowest. A value that is given to a name counts 1, at the comprehension's place

abbrev pub names : World → Span → List Element → List ℕ → Rest → Rest
names w at es [] rest env occurs made = rest env occurs made
names w at es (s ∷ ss) rest env occurs made =
    loop (λ acc x. spend w.budget at 1 >> names w at es ss rest (bind s x.0 env) (both_occur occurs x.1) acc) made es

-- a set that isn't there counts, where the elements of the generators before it occur
abbrev pub counted_set : Mode → Presence → Sure → Sure
counted_set m None s = s
counted_set m (Some b) s = record { par = false; is = if_given m (not b || s.is) }

abbrev pub with_set : Mode → Presence → Cell → Made → Made
with_set m occurs c made = record { cells = made.cells; whole = both_sure made.whole (counted_set m occurs (there c)) }

abbrev pub generators : World → Eval → Context → Span → List Gen → Rest → Rest
generators w go ctx at [] rest env occurs made = rest env occurs made
generators w go ctx at (g ∷ gs) rest env occurs made = do
  c ← go (elsewhere ctx) g.set env
  names w at (elements_in w.mode (type_of g.set).base c) g.slots (where_ w.mode go ctx g.cond (generators w go ctx at gs rest)) env occurs (with_set w.mode occurs c made)

-- in braces a set of the heads, else an array indexed from 1
abbrev pub made_cell : Mode → PlainType → Bool → List Cell → Cell
made_cell m t true cs = set_cell t cs
made_cell m t false cs = line_cell m cs

-- a var array has its range, of no elements 1..0, also where a set that counts is undefined: only a par array has none there
abbrev pub comprehension : World → Eval → Context → Bool → Tree → List Gen → Span → PlainType → Env → Run Cell
comprehension w go ctx braces head gs at t env = do
  made ← generators w go ctx at gs (added w.mode go ctx head) env None nothing_made
  done w at (guarded w.mode t made.whole (sealed w.mode t.var t (made_cell w.mode t braces made.cells)))
