-- Elements at a place under a reading.
use Rattle.std.proofs.Common.{◌≡◌, ◌∙◌, ℕ, ℤ, zero, suc, ◌<◌, Bool, true, false, List, [], ◌∷◌, map, min, slice_get, Option, Some, None, is_some, refl, sym, ap, subst, if◌then◌else◌, arith}
use Rattle.std.specs.Option.{option_and_then, option_map}
use Rattle.mz_value.specs.Ranges.{Range}
use Rattle.mz_value.specs.Contents.{Content, contents}
use Rattle.mz_value.specs.Contents as values
use Rattle.mz_core.specs.declared.types.Base.{Base}
use Rattle.mz_index.specs.Places.{most, place_of}
use Rattle.mz_arena.specs.Values.{Term, bit, is_true}
use Rattle.mz_meaning.specs.Arrays.{accessed, element_at, indices_in}
use Rattle.mz_meaning.specs.Cells.{Mode, Blank, Given, all_par, held, value_of}
use Rattle.mz_meaning.specs.Coerced.{recast}
use Rattle.mz_symbol.specs.declared.types.Symbol.{Symbol}
use Rattle.mz_symbol.specs.declared.types.Line.{Line}
use Rattle.mz_symbol.specs.Lines.{IsElement, only_if}
use Rattle.mz_symbol.specs.Symbols.{symbol_value, AreItems, IsItem}
use Rattle.mz_symbol.specs.Runs.{Run, ReadsNodes}
use Rattle.mz_symbol.specs.Readings.{Reading, Reads, symbol_seen}
use Rattle.mz_symbol.specs.Arguments.{as_argument}
use Rattle.mz_symbol_rows.specs.RowValues.{argument}
use Rattle.mz_symbol_rows.specs.OptionValues.{guarded_value}
use Rattle.mz_symbol_arrays.specs.LineValues.{IsLineOf}
use Rattle.mz_symbol_arrays.proofs.RowLaws.{items_back}
use Rattle.mz_eval_cells.specs.declared.types.Known.{Known}
use Rattle.mz_eval_cells.specs.declared.types.VarItems.{VarItems}
use Rattle.mz_eval_cells.specs.Views.{all_seen, array_of, cast_by, cells_of, origins_value, seen}
use Rattle.mz_eval_symbols.specs.Steps.{argued, elements_cast, item_cast}
use Rattle.mz_eval_symbols.specs.Taken.{cell_value}
use Rattle.mz_eval_symbols.proofs.Arrays.{array_cast}
use Rattle.mz_eval_arrays.specs.ArrayCells.{counted, is_counted}
use Rattle.mz_eval_arrays.proofs.KindLaws.{as_counted, counted_twice}
use Rattle.mz_eval_arrays.proofs.GatheredCells.{all_same}
use Rattle.mz_eval_elements.specs.StepsElements.{at_kind, counted_seen, guarded_seen, in_place, item_at, origins_item, row_element}
use Rattle.mz_eval_elements.proofs.CellLaws.{get_mapped, item_argued}

-- ---- places

pub nowhere : (o p : Option ℕ) → p ≡ option_map (min most) o → p ≡ None → o ≡ None
nowhere None p h e = refl
nowhere (Some m) p h e = absurd (cc)

below : (c m n : ℕ) → min c m ≡ n → n < c → m ≡ n
below c m n h l = omega (arith, h, l)

pub uncapped : (o p : Option ℕ) (n : ℕ) → p ≡ option_map (min most) o → p ≡ Some n → n < most → o ≡ Some n
uncapped None p n h e l = absurd (cc)
uncapped (Some m) p n h e l = let same : min most m ≡ n = cc in ap Some (below most m n same l)

-- ---- the element of a line

item_there : (t : ℕ → Term) (ss : List Symbol) (i : ℕ) (s : Symbol) → slice_get ss i ≡ Some s → AreItems t ss → IsItem t s
item_there t [] zero s e h = absurd (cc)
item_there t [] (suc i) s e h = absurd (cc)
item_there t (x ∷ ss) zero s e h = let same : x ≡ s = cc in subst (IsItem t) same h.0
item_there t (x ∷ ss) (suc i) s e h = item_there t ss i s e h.1

line_same : {o : Option Line} {x y : Line} → o ≡ Some x → o ≡ Some y → x ≡ y
line_same p q = cc

-- of an array that is defined the element is there
there : (r : Reading) (s : Run) (k d c n : ℕ) (y : Symbol) → IsLineOf s k d c → IsElement s k n y → Reads r s → is_true (r.term d) ≡ true → argued r.term y ≡ in_place n (r.line k)
there r s k d c n y l e h g =
    let same : l.line ≡ e.line = line_same l.stands e.stands in
    let place : slice_get l.line.items.items n ≡ Some y = ap (λ (x : Line). slice_get x.items.items n) same ∙ e.place in
    let own : d ≡ e.line.defined = sym l.defined ∙ ap (λ (x : Line). x.defined) same in
    item_argued r.term y (item_there r.term l.line.items.items n y place (l.whole r.term h.nodes g))
    ∙ sym (ap (λ b. only_if b (symbol_value r.term y)) (ap (λ i. is_true (r.term i)) (sym own) ∙ g))
    ∙ e.value r h

-- and of one that isn't there is none
gone : (r : Reading) (s : Run) (k d c n : ℕ) (y : Symbol) → IsLineOf s k d c → IsElement s k n y → Reads r s → is_true (r.term d) ≡ false → None ≡ in_place n (r.line k)
gone r s k d c n y l e h g =
    let same : l.line ≡ e.line = line_same l.stands e.stands in
    let own : d ≡ e.line.defined = sym l.defined ∙ ap (λ (x : Line). x.defined) same in
    sym (ap (λ b. only_if b (symbol_value r.term y)) (ap (λ i. is_true (r.term i)) (sym own) ∙ g))
    ∙ e.value r h

pub sure_told : (r : Reading) (s : Run) (k d c n : ℕ) (y : Symbol) → IsLineOf s k d c → IsElement s k n y → ((t : ℕ → Term) → ReadsNodes t s.arena → t d ≡ bit true) → Reads r s → argued r.term y ≡ in_place n (r.line k)
sure_told r s k d c n y l e f h = there r s k d c n y l e h (ap is_true (f r.term h.nodes))

held_none : (m : Mode) → held m None ≡ None
held_none (Blank n) = refl
held_none (Given f) = refl

-- the element where the array is defined
pub found_told : (r : Reading) (s : Run) (k d c n : ℕ) (y : Symbol) (q : Option Base) (v : Option Content) → IsLineOf s k d c → IsElement s k n y → Reads r s → v ≡ held r.mode (option_map (item_cast q) (argued r.term y))
    → held r.mode (option_map (item_cast q) (in_place n (r.line k))) ≡ (if is_true (r.term d) then v else None)
found_told r s k d c n y q v l e h w = by (is_true (r.term d)) refl
  where
    by : (b : Bool) → is_true (r.term d) ≡ b → held r.mode (option_map (item_cast q) (in_place n (r.line k))) ≡ (if b then v else None)
    by true g = ap (λ u. held r.mode (option_map (item_cast q) u)) (sym (there r s k d c n y l e h g)) ∙ sym w
    by false g = ap (λ u. held r.mode (option_map (item_cast q) u)) (sym (gone r s k d c n y l e h g)) ∙ held_none r.mode

-- ---- at a node

kind_held : (m : Mode) (q : Bool) (v : Option Content) → held m (counted q v) ≡ held m (counted q (held m v))
kind_held (Blank n) q v = refl
kind_held (Given f) q v = refl

-- what is told of a cell's value is told at a node
pub kind_told : (r : Reading) (b : Base) (o : Bool) (k : Known) (v : Option Content) → value_of (seen r k) ≡ held r.mode v → at_kind r b o v ≡ counted_seen b o r k
kind_told r b o k v e = kind_held r.mode (is_counted b o) v ∙ ap (at_kind r b o) (sym e)

pub none_told : (r : Reading) (b : Base) (o : Bool) (k : Known) (v : Option Content) → v ≡ None → value_of (seen r k) ≡ None → at_kind r b o v ≡ counted_seen b o r k
none_told r b o k v e h = ap (at_kind r b o) (e ∙ sym h)

same_value : (v : Option Content) → v ≡ option_map (item_cast None) v
same_value None = refl
same_value (Some x) = refl

kind_twice : (m : Mode) (q : Bool) (v w : Option Content) → held m (counted q v) ≡ held m w → held m (counted q v) ≡ held m (counted q (held m w))
kind_twice (Blank n) q v w e = refl
kind_twice (Given f) q v w e = sym (counted_twice q v) ∙ ap (counted q) e

-- a symbol that is an element at a node, as a cell
pub symbol_told : (r : Reading) (b : Base) (o : Bool) (v : Option Content) (s : Symbol) (k : Known) → at_kind r b o v ≡ argument r s → value_of (seen r k) ≡ held r.mode (option_map (item_cast None) (argued r.term s)) → at_kind r b o v ≡ counted_seen b o r k
symbol_told r b o v s k e h =
    kind_twice r.mode (is_counted b o) v (argued r.term s) e
    ∙ ap (at_kind r b o) (sym (h ∙ ap (held r.mode) (sym (same_value (argued r.term s)))))

-- a symbol that is undefined, as a cell without a value
pub gone_told : (r : Reading) (s : Symbol) (k : Known) → value_of (seen r k) ≡ None → argued r.term s ≡ None → value_of (seen r k) ≡ held r.mode (option_map (item_cast None) (argued r.term s))
gone_told r s k e g = e ∙ sym (held_none r.mode) ∙ ap (λ v. held r.mode (option_map (item_cast None) v)) (sym g)

pub open_told : (r : Reading) (b : Base) (o : Bool) (q : Option Base) (k n d : ℕ) (own x : Known) (s : Symbol) → held r.mode (option_map (item_cast q) (in_place n (r.line k))) ≡ (if is_true (r.term d) then value_of (seen r own) else None) → guarded_seen r b o d own ≡ argument r s → value_of (seen r x) ≡ held r.mode (option_map (item_cast None) (argued r.term s))
    → item_at r b o q k n ≡ counted_seen b o r x
open_told r b o q k n d own x s f e h =
    kind_held r.mode (is_counted b o) (option_map (item_cast q) (in_place n (r.line k)))
    ∙ ap (at_kind r b o) f
    ∙ symbol_told r b o (if is_true (r.term d) then value_of (seen r own) else None) s x e h

-- ---- a symbol where a node is true

if_counted : (c q : Bool) (v : Option Content) → counted q (if c then counted q v else None) ≡ counted q (if c then v else None)
if_counted true q v = counted_twice q v
if_counted false q v = refl

guarded_by : (m : Mode) (c q p : Bool) (v x z : Option Content) → held m v ≡ held m (counted q x) → held m (counted q (if c then x else None)) ≡ held m z → p ≡ q → held m (counted q (if c then v else None)) ≡ held m (counted p z)
guarded_by (Blank n) c q p v x z e f g = refl
guarded_by (Given i) c q p v x z e f g =
    ap (λ y. counted q (if c then y else None)) e
    ∙ if_counted c q x
    ∙ sym (counted_twice q (if c then x else None))
    ∙ ap (counted q) f
    ∙ ap (λ b. counted b z) (sym g)

pub guarded_told : (r : Reading) (b : Base) (o : Bool) (d : ℕ) (k : Known) (x s : Symbol) → cell_value r k ≡ argument r x → held r.mode (as_argument x.base x.occurs (guarded_value r d x)) ≡ symbol_seen r s → is_counted x.base (is_some x.occurs) ≡ is_counted b o → is_counted s.base (is_some s.occurs) ≡ is_counted b o → guarded_seen r b o d k ≡ argument r s
guarded_told r b o d k x s e f g h =
    let q = is_counted b o in
    let c = is_true (r.term d) in
    guarded_by r.mode c q (is_counted s.base (is_some s.occurs)) (value_of (seen r k)) (symbol_value r.term x) (symbol_value r.term s)
    (e ∙ ap (held r.mode) (as_counted x.base x.occurs (symbol_value r.term x)) ∙ ap (λ p. held r.mode (counted p (symbol_value r.term x))) g)
    (ap (λ p. held r.mode (counted p (guarded_value r d x))) (sym g) ∙ ap (held r.mode) (sym (as_counted x.base x.occurs (guarded_value r d x))) ∙ f)
    h
    ∙ ap (held r.mode) (sym (as_counted s.base s.occurs (symbol_value r.term s)))

-- ---- the element of an array

cast_place : (c : Option Base) (n : ℕ) (v : Option (List Content)) → in_place n (elements_cast c v) ≡ option_map (item_cast c) (in_place n v)
cast_place None n v = same_value (in_place n v)
cast_place (Some b) n None = refl
cast_place (Some b) n (Some xs) = get_mapped (recast b) xs n

abbrev array_in : List Range → Option (List Content) → Option Content
array_in ix v = option_map (λ xs. values.array ix (contents xs)) v

found : (ix : List Range) (xs : List Content) (ns : Option (List ℤ)) (p : Option ℕ) → option_and_then (place_of ix) ns ≡ p → option_and_then (element_at (values.array ix (contents xs))) ns ≡ option_and_then (λ n. slice_get xs n) p
found ix xs None p e = ap (option_and_then (λ n. slice_get xs n)) e
found ix xs (Some is) p e = ap (λ ys. option_and_then (λ n. slice_get ys n) (place_of ix is)) (items_back xs) ∙ ap (option_and_then (λ n. slice_get xs n)) e

none_in : (p : Option ℕ) → None ≡ option_and_then (λ n. in_place n None) p
none_in None = refl
none_in (Some n) = refl

array_at : (ix : List Range) (v : Option (List Content)) (vs : List (Option Content)) (p : Option ℕ) → option_and_then (place_of ix) (indices_in vs) ≡ p → accessed (array_in ix v) vs ≡ option_and_then (λ n. in_place n v) p
array_at ix None vs p e = none_in p
array_at ix (Some xs) vs p e = found ix xs (indices_in vs) p e

held_at : (m : Mode) (q : Bool) (v : Option Content) (vs : List (Option Content)) → held m (counted q (accessed (held m v) vs)) ≡ held m (counted q (accessed v vs))
held_at (Blank n) q v vs = refl
held_at (Given f) q v vs = refl

pub row_at : (r : Reading) (b : Base) (o : Bool) (ix : List Range) (xs : VarItems) (at : List Known) (p : Option ℕ) → all_par (cells_of at) ≡ true → option_and_then (place_of ix) (indices_in (map value_of (cells_of at))) ≡ p
    → row_element r b o ix xs at ≡ at_kind r b o (option_and_then (λ n. in_place n (elements_cast xs.cast (origins_value r.line xs.origins))) p)
row_at r b o ix xs at p h e =
    let v = origins_value r.line xs.origins in
    held_at r.mode (is_counted b o) (cast_by xs.cast (array_of ix v)) (map value_of (all_seen r at))
    ∙ ap (λ cs. at_kind r b o (accessed (cast_by xs.cast (array_of ix v)) (map value_of cs))) (all_same r at h)
    ∙ ap (λ u. at_kind r b o (accessed u (map value_of (cells_of at)))) (array_cast xs.cast ix v)
    ∙ ap (at_kind r b o) (array_at ix (elements_cast xs.cast v) (map value_of (cells_of at)) p e)

pub row_placed : (r : Reading) (b : Base) (o : Bool) (ix : List Range) (xs : VarItems) (at : List Known) (n : ℕ) → all_par (cells_of at) ≡ true → option_and_then (place_of ix) (indices_in (map value_of (cells_of at))) ≡ Some n
    → row_element r b o ix xs at ≡ origins_item r b o xs.cast xs.origins n
row_placed r b o ix xs at n h e = row_at r b o ix xs at (Some n) h e ∙ ap (at_kind r b o) (cast_place xs.cast n (origins_value r.line xs.origins))
