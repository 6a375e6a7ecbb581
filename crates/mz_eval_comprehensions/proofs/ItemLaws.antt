-- The elements of var arrays at their places, under a reading.
use Rattle.std.proofs.Common.{◌≡◌, ◌∙◌, ℕ, zero, suc, ℤ, Bool, true, false, List, [], ◌∷◌, map, Option, Some, None, IsSome, slice_get, refl, sym, ap, subst, if◌then◌else◌}
use Rattle.std.proofs.lemmas.Option.{slice_get-map}
use Rattle.std.specs.Option.{option_map, option_and_then}
use Rattle.mz_value.specs.declared.value.Value.{Value}
use Rattle.mz_value.specs.Ranges.{Range}
use Rattle.mz_value.specs.Contents.{Content, content}
use Rattle.mz_value.specs.Contents as values
use Rattle.mz_core.specs.declared.types.Base.{Base}
use Rattle.mz_core.specs.declared.types.Base.TheVariants as base
use Rattle.mz_core.specs.Types.{PlainType}
use Rattle.mz_instance.specs.Contents.{content_by}
use Rattle.mz_arena.specs.Values.{Term, as_number, as_set, is_true}
use Rattle.mz_operations.specs.Bounds as bounds
use Rattle.mz_meaning.specs.Coerced.{recast, recast_all}
use Rattle.mz_meaning.specs.Cells as cells
use Rattle.mz_meaning.specs.Cells.{Cell, Var, Mode, Blank, Given, guarded, held, only_if}
use Rattle.mz_symbol.specs.declared.types.Symbol.{Symbol}
use Rattle.mz_symbol.specs.Symbols.{symbol_value, value_at, value_by, AreItems, IsItem}
use Rattle.mz_symbol.specs.Lines as lines
use Rattle.mz_symbol.specs.Lines.{IsElement}
use Rattle.mz_symbol.specs.Runs.{Run}
use Rattle.mz_symbol.specs.Readings.{Reading, Reads}
use Rattle.mz_symbol.specs.Arguments.{as_argument}
use Rattle.mz_symbol_arrays.specs.LineValues.{IsLineOf}
use Rattle.mz_eval_cells.specs.Views.{cast_by}
use Rattle.mz_eval_symbols.specs.Steps.{argued, elements_cast, item_cast}
use Rattle.mz_eval_guards.specs.Guards.{held_truth, open_sure}

-- ---- par values

cast_value : (c : Option Base) (xs : List Value) (n : ℕ) (v : Value) → slice_get xs n ≡ Some v → option_and_then (λ ys. slice_get ys n) (elements_cast c (Some (map content xs))) ≡ Some (item_cast c (content v))
cast_value None xs n v e = slice_get-map content xs n ∙ ap (option_map content) e
cast_value (Some b) xs n v e = slice_get-map (recast b) (map content xs) n ∙ ap (option_map (recast b)) (slice_get-map content xs n ∙ ap (option_map content) e)

pub value_told : (b : bounds.Bound) (m : Mode) (c : Option Base) (xs : List Value) (n : ℕ) (v : Value) (x : Content) → slice_get xs n ≡ Some v → x ≡ item_cast c (content v)
    → Var (bounds.one b) (held m (Some x)) ≡ Var (bounds.one b) (held m (option_and_then (λ ys. slice_get ys n) (elements_cast c (Some (map content xs)))))
value_told b m c xs n v x e h = ap (λ o. Var (bounds.one b) (held m o)) (ap (λ y. Some y) h ∙ sym (cast_value c xs n v e))

pub none_told : (b : bounds.Bound) (m : Mode) (c : Option Base) (n : ℕ) → Var (bounds.one b) None ≡ Var (bounds.one b) (held m (option_and_then (λ ys. slice_get ys n) (elements_cast c None)))
none_told b (Blank k) c n = refl
none_told b (Given f) None n = refl
none_told b (Given f) (Some d) n = refl

-- ---- a symbol's value is no array

number_single : (b d : Base) (o : Option ℤ) → option_map (recast_all b) (option_map (λ n. content_by d n []) o) ≡ option_map (recast b) (option_map (λ n. content_by d n []) o)
number_single b d None = refl
number_single b base.Bool (Some n) = refl
number_single b (base.Enum e) (Some n) = refl
number_single b base.SetInt (Some n) = refl
number_single b (base.SetEnum e) (Some n) = refl
number_single b d (Some n) = refl

set_single : (b : Base) (e : Option ℕ) (o : Option (List Range)) → option_map (recast_all b) (option_map (λ s. values.set e s) o) ≡ option_map (recast b) (option_map (λ s. values.set e s) o)
set_single b e None = refl
set_single b e (Some s) = refl

value_single : (b d : Base) (u : Term) → option_map (recast_all b) (value_by d u) ≡ option_map (recast b) (value_by d u)
value_single b base.SetInt u = set_single b None (as_set u)
value_single b (base.SetEnum e) u = set_single b (Some e) (as_set u)
value_single b d u = number_single b d (as_number u)

option_single : (b d : Base) (u : Term) (p : Bool) → option_map (recast_all b) (if p then value_by d u else Some values.absent) ≡ option_map (recast b) (if p then value_by d u else Some values.absent)
option_single b d u true = value_single b d u
option_single b d u false = refl

single_cast : (b : Base) (t : ℕ → Term) (d : Base) (o : Option ℕ) (id : ℕ) → option_map (recast_all b) (as_argument d o (value_at t d o id)) ≡ option_map (recast b) (as_argument d o (value_at t d o id))
single_cast b t base.Bool None id = refl
single_cast b t d None id = value_single b d (t id)
single_cast b t base.Bool (Some o) id = option_single b base.Bool (t id) (is_true (t o))
single_cast b t d (Some o) id = option_single b d (t id) (is_true (t o))

-- ---- where a line is defined its elements have values

some_truth : (o : Option ℤ) → IsSome (option_map (λ n. content_by base.Bool n []) o) → Some (values.bool (cells.is_true (option_map (λ n. content_by base.Bool n []) o))) ≡ option_map (λ n. content_by base.Bool n []) o
some_truth None h = absurd (cc)
some_truth (Some n) h = refl

own_value : (t : ℕ → Term) (d : Base) (o : Option ℕ) (id : ℕ) → IsSome (value_by d (t id)) → as_argument d o (value_at t d o id) ≡ value_at t d o id
own_value t base.Bool None id h = some_truth (as_number (t id)) h
own_value t base.Bool (Some o) id h = refl
own_value t d o id h = refl

item_at : (t : ℕ → Term) (ss : List Symbol) (n : ℕ) (y : Symbol) → AreItems t ss → slice_get ss n ≡ Some y → IsItem t y
item_at t [] n y a e = absurd (cc)
item_at t (s ∷ ss) zero y a e = let same : s ≡ y = cc in subst (IsItem t) same a.0
item_at t (s ∷ ss) (suc n) y a e = item_at t ss n y a.1 e

only_own : (t : ℕ → Term) (p : Bool) (y : Symbol) → (p ≡ true → IsItem t y) → only_if p (argued t y) ≡ only_if p (symbol_value t y)
only_own t true y h = own_value t y.base y.occurs y.term ((h refl).value)
only_own t false y h = refl

only_same : (p : Bool) (v : Option Content) → only_if p v ≡ lines.only_if p v
only_same true v = refl
only_same false v = refl

-- the element of a line, as an argument, where the line is defined
element_told : (r : Reading) (s : Run) (k d c n : ℕ) (y : Symbol) → IsLineOf s k d c → IsElement s k n y → Reads r s → only_if (is_true (r.term d)) (argued r.term y) ≡ option_and_then (λ ys. slice_get ys n) (r.line k)
element_told r s k d c n y l e h =
    let same : e.line ≡ l.line = by e.stands l.stands in
    let at : slice_get l.line.items.items n ≡ Some y = ap (λ x. slice_get x.items.items n) (sym same) ∙ e.place in
    let defined : e.line.defined ≡ d = ap (λ x. x.defined) same ∙ l.defined in
    only_own r.term (is_true (r.term d)) y (λ p. item_at r.term l.line.items.items n y (l.whole r.term h.nodes p) at)
    ∙ only_same (is_true (r.term d)) (symbol_value r.term y)
    ∙ ap (λ i. lines.only_if (is_true (r.term i)) (symbol_value r.term y)) (sym defined)
    ∙ e.value r h
  where
    by : {A : Type 0} {o : Option A} {x z : A} → o ≡ Some x → o ≡ Some z → x ≡ z
    by p q = cc

only_map : (f : Content → Content) (p : Bool) (v : Option Content) → only_if p (option_map f v) ≡ option_map f (only_if p v)
only_map f true v = refl
only_map f false v = refl

at_map : (f : Content → Content) (n : ℕ) (o : Option (List Content)) → option_map f (option_and_then (λ ys. slice_get ys n) o) ≡ option_and_then (λ ys. slice_get ys n) (option_map (map f) o)
at_map f n None = refl
at_map f n (Some ys) = sym (slice_get-map f ys n)

cast_told : (t : ℕ → Term) (c : Option Base) (p : Bool) (n : ℕ) (y : Symbol) (o : Option (List Content)) → only_if p (argued t y) ≡ option_and_then (λ ys. slice_get ys n) o → only_if p (cast_by c (argued t y)) ≡ option_and_then (λ ys. slice_get ys n) (elements_cast c o)
cast_told t None p n y o h = h
cast_told t (Some b) p n y o h =
    ap (only_if p) (single_cast b t y.base y.occurs y.term)
    ∙ only_map (recast b) p (argued t y)
    ∙ ap (option_map (recast b)) h
    ∙ at_map (recast b) n o

held_told : (m : Mode) (p : Bool) (v w : Option Content) → only_if p v ≡ w → held m (only_if (held_truth m p) (held m v)) ≡ held m w
held_told (Blank k) p v w h = refl
held_told (Given f) p v w h = h

-- the cell of a line's element
pub line_told : (r : Reading) (s : Run) (ty : PlainType) (b : bounds.Bound) (c : Option Base) (k d count n : ℕ) (y : Symbol) (x z : Cell) → IsLineOf s k d count → IsElement s k n y → Reads r s
    → z ≡ Var (bounds.one b) (held r.mode (cast_by c (argued r.term y))) → x ≡ guarded r.mode ty (open_sure r.mode (is_true (r.term d))) z → x ≡ Var (bounds.one b) (held r.mode (option_and_then (λ ys. slice_get ys n) (elements_cast c (r.line k))))
line_told r s ty b c k d count n y x z l e h q g =
    g
    ∙ ap (guarded r.mode ty (open_sure r.mode (is_true (r.term d)))) q
    ∙ ap (Var (bounds.one b)) (held_told r.mode (is_true (r.term d)) (cast_by c (argued r.term y)) _ (cast_told r.term c (is_true (r.term d)) n y (r.line k) (element_told r s k d count n y l e h)))
