-- The least and the greatest element of an array, by the list of its elements.
use Rattle.std.proofs.Common.{◌≡◌, ◌∙◌, ◌⊎◌, inl, inr, ℕ, ℤ, Bool, true, false, List, [], ◌∷◌, length, map, Option, Some, None, slice_get, refl, sym, ap, subst, arith, if◌then◌else◌}
use Rattle.std.specs.Option.{option_map, option_and_then}
use Rattle.mz_value.specs.Ranges.{Range}
use Rattle.mz_value.specs.Contents.{Content, contents}
use Rattle.mz_value.specs.Contents as values
use Rattle.mz_core.specs.declared.types.Base.{Base}
use Rattle.mz_core.specs.declared.types.Base.TheVariants as base
use Rattle.mz_operations.specs.declared.row.Side.{Side}
use Rattle.mz_operations.specs.declared.row.ScalarRow.TheVariants as row
use Rattle.mz_operations.specs.Views.{◌>>=◌, as_int, as_items}
use Rattle.mz_operations.specs.Arguments.{at, items_at}
use Rattle.mz_operations.specs.Arrays.{fold_from}
use Rattle.mz_operations.specs.Numbers.{nearer, toward}
use Rattle.mz_operations.specs.Values.{scalar_value}
use Rattle.mz_arena.specs.Values.{Term, number, numbers, empty, as_number, as_numbers, is_true, cons_term, extreme_number, extreme_value, extreme_term}
use Rattle.mz_meaning.specs.Runs.{State, Out}
use Rattle.mz_meaning.specs.Cells.{held}
use Rattle.mz_symbol.specs.declared.types.Symbol.{Symbol}
use Rattle.mz_symbol.specs.declared.types.Lists.{Lists}
use Rattle.mz_symbol.specs.Symbols.{value_by, value_at, symbol_value, all_there, HaveBase, ArePlain, AreLists, IsOccursList, list_term, item_terms}
use Rattle.mz_symbol.specs.Runs.{Run}
use Rattle.mz_symbol.specs.Readings.{Reading, Reads, IsGiven, symbol_seen}
use Rattle.mz_symbol.specs.Lines.{HasLists}
use Rattle.mz_symbol.specs.Arguments.{as_argument}
use Rattle.mz_symbol_rows.specs.StepsNodes.{symbol_of}
use Rattle.mz_symbol_rows.specs.OptionValues.{guarded_value}
use Rattle.mz_symbol_arrays.specs.LineValues.{array_row, IsLineOf}
use Rattle.mz_symbol_arrays.proofs.Given.{held_given, held_by, gives}
use Rattle.mz_symbol_arrays.proofs.LineLaws.{line_defined, line_holds, line_fails}
use Rattle.mz_symbol_arrays.proofs.RowLaws.{items_back, guarded_by, guarded_none}
use Rattle.mz_symbol_arrays.specs.StepsExtremes.{AreInts}

-- ---- the extreme of a list

abbrev ints_of : List ℤ → List Content
ints_of ns = map (λ n. values.int n) ns

abbrev int_of : Option ℤ → Option Content
int_of o = option_map (λ n. values.int n) o

fold_more : (side : Side) (m : ℤ) (ns : List ℤ) → fold_from as_int (nearer side) (Some m) (ints_of ns) ≡ Some (Some (extreme_number side m ns))
unfolding fold_from as_int nearer
fold_more side m [] = refl
fold_more side m (n ∷ ns) = fold_more side (toward side m n) ns

extreme_on : (side : Side) (ns : List ℤ) → (fold_from as_int (nearer side) None (ints_of ns) >>= λ found. found >>= λ n. Some (values.int n)) ≡ value_by base.Int (extreme_value side ns)
unfolding fold_from as_int nearer
extreme_on side [] = refl
extreme_on side (n ∷ ns) = ap (λ o. o >>= λ found. found >>= λ n. Some (values.int n)) (fold_more side n ns)

row_on : (side : Side) (ix : List Range) (xs : List Content) → scalar_value (row.Extreme side) (Some (values.array ix (contents xs)) ∷ []) ≡ (fold_from as_int (nearer side) None xs >>= λ found. found >>= λ n. Some (values.int n))
unfolding scalar_value items_at at as_items
row_on side ix xs = ap (λ ys. fold_from as_int (nearer side) None ys >>= λ found. found >>= λ n. Some (values.int n)) (items_back xs)

no_row : (side : Side) → scalar_value (row.Extreme side) (None ∷ []) ≡ None
unfolding scalar_value items_at at
no_row side = refl

extreme_is : (side : Side) (x : Term) (ns : List ℤ) → as_numbers x ≡ Some ns → extreme_term side x ≡ extreme_value side ns
unfolding extreme_term
extreme_is side x ns e = ap (λ o. o >>= λ ns. extreme_value side ns) e

-- ---- the elements of a line of integers

record HasInts (t : ℕ → Term) (ss : List Symbol) (xs : List Content) : Type 0 where
  numbers : List ℤ
  list : as_numbers (list_term t (item_terms ss)) ≡ Some numbers
  elements : xs ≡ ints_of numbers

ints_none : (t : ℕ → Term) (xs : List Content) → all_there [] ≡ Some xs → HasInts t [] xs
unfolding list_term
ints_none t xs e = record { numbers = []; list = refl; elements = cc }

cons_number : (n : ℤ) (y : Term) (ns : List ℤ) → as_numbers y ≡ Some ns → as_numbers (cons_term (Some (number n)) y) ≡ Some (n ∷ ns)
unfolding cons_term
cons_number n y ns e = ap (λ o. as_numbers (option_map (λ ns. numbers (n ∷ ns)) o)) e

list_more : (t : ℕ → Term) (i : ℕ) (is : List ℕ) (n : ℤ) (ns : List ℤ) → t i ≡ Some (number n) → as_numbers (list_term t is) ≡ Some ns → as_numbers (list_term t (i ∷ is)) ≡ Some (n ∷ ns)
unfolding list_term
list_more t i is n ns e h = ap (λ x. as_numbers (cons_term x (list_term t is))) e ∙ cons_number n (list_term t is) ns h

int_symbol : (t : ℕ → Term) (s : Symbol) → s.base ≡ base.Int → s.occurs ≡ None → symbol_value t s ≡ int_of (as_number (t s.term))
int_symbol t s e o = ap (λ c. value_at t c s.occurs s.term) e ∙ ap (λ q. value_at t base.Int q s.term) o

record IsNumber (x : Term) (v : Option Content) : Type 0 where
  value : ℤ
  is : x ≡ Some (number value)
  seen : v ≡ Some (values.int value)

number_by : (x : Term) (v : Content) → int_of (as_number x) ≡ Some v → IsNumber x (Some v)
number_by None v e = absurd (cc)
number_by (Some (number n)) v e = record { value = n; is = refl; seen = sym e }
number_by (Some w) v e = absurd (cc)

ints_more : (t : ℕ → Term) (s : Symbol) (ss : List Symbol) (xs : List Content) (v : Option Content) (o : Option (List Content)) → v ≡ int_of (as_number (t s.term)) → all_there (map (symbol_value t) ss) ≡ o → all_there (v ∷ map (symbol_value t) ss) ≡ Some xs → ((ys : List Content) → all_there (map (symbol_value t) ss) ≡ Some ys → HasInts t ss ys) → HasInts t (s ∷ ss) xs
ints_more t s ss xs None o e q h r = absurd (cc)
ints_more t s ss xs (Some v) None e q h r = absurd (none (all_there (map (symbol_value t) ss)) q h)
  where
    none : (o : Option (List Content)) → o ≡ None → option_map (λ ys. v ∷ ys) o ≡ Some xs → ⊥
    none None p k = cc
    none (Some ys) p k = cc
ints_more t s ss xs (Some v) (Some ys) e q h r =
    let m = r ys q in
    let n = number_by (t s.term) v (sym e) in
    let all : option_map (λ ys. v ∷ ys) (Some ys) ≡ Some xs = ap (option_map (λ ys. v ∷ ys)) (sym q) ∙ h in
    let same : v ∷ ys ≡ xs = cc in
    let first : v ≡ values.int n.value = cc in
    record {
      numbers = n.value ∷ m.numbers;
      list = list_more t s.term (item_terms ss) n.value m.numbers n.is m.list;
      elements = sym same ∙ ap (λ z. z ∷ ys) first ∙ ap (λ zs. values.int n.value ∷ zs) m.elements;
    }

ints_are : (t : ℕ → Term) (ss : List Symbol) (xs : List Content) → HaveBase base.Int ss → ArePlain ss → all_there (map (symbol_value t) ss) ≡ Some xs → HasInts t ss xs
ints_are t [] xs h w e = ints_none t xs e
ints_are t (s ∷ ss) xs h w e = ints_more t s ss xs (symbol_value t s) (all_there (map (symbol_value t) ss)) (int_symbol t s h.0 w.0) refl e (λ ys q. ints_are t ss ys h.1 w.1 q)

-- ---- all together

empty_ints : (ss : List Symbol) → length ss ≡ 0 → HaveBase base.Int ss
empty_ints [] h = tt
empty_ints (s ∷ ss) h = absurd (omega (arith, h))

int_base : (b : Base) (ss : List Symbol) (n : ℕ) → (b ≡ base.Int) ⊎ (n ≡ 0) → length ss ≡ n → HaveBase b ss → HaveBase base.Int ss
int_base b ss n (inl e) l h = subst (λ z. HaveBase z ss) e h
int_base b ss n (inr e) l h = empty_ints ss (l ∙ e)

some_same : {A : Type 0} (o : Option A) (x y : A) → o ≡ Some x → o ≡ Some y → x ≡ y
some_same o x y p q = cc

abbrev folded : Side → List Content → Option Content
folded side xs = fold_from as_int (nearer side) None xs >>= λ found. found >>= λ n. Some (values.int n)

line_ints : (r : Reading) (s : Run) (side : Side) (ls : Lists) (k d n : ℕ) (xs : List Content) → HasLists s k ls → IsLineOf s k d n → Reads r s → AreInts ls n → r.line k ≡ Some xs → value_by base.Int (extreme_term side (r.term ls.terms)) ≡ folded side xs
line_ints r s side ls k d n xs h l q u e =
    let same : h.line ≡ l.line = some_same (slice_get s.lines k) h.line l.line h.stands l.stands in
    let lists : AreLists r.term l.line.items.items ls = subst (λ z. AreLists r.term z.items.items ls) same (h.lists r q) in
    let f = line_defined r s k l.line xs l.stands q e in
    let i = ints_are r.term l.line.items.items xs (int_base ls.base l.line.items.items n u.ints l.count lists.bases) (subst (IsOccursList r.term l.line.items.items) u.plain lists.occurs) f.all in
    ap (value_by base.Int) (extreme_is side (r.term ls.terms) i.numbers (ap as_numbers lists.terms ∙ i.list))
    ∙ sym (extreme_on side i.numbers)
    ∙ ap (folded side) (sym i.elements)

abbrev value_is : List Range → Option (List Content) → Option Content
value_is ix o = option_map (λ xs. values.array ix (contents xs)) o

pub extreme_held : (r : Reading) (m : Run) (side : Side) (ls : Lists) (ix : List Range) (k d n term : ℕ) (s : Symbol) (u v : State) → HasLists m k ls → IsLineOf m k d n → Reads r m → AreInts ls n → extreme_term side (r.term ls.terms) ≡ r.term term → Out (held r.mode (as_argument base.Int None (guarded_value r d (symbol_of base.Int term)))) u ≡ Out (symbol_seen r s) v → held r.mode (array_row r (row.Extreme side) ix k) ≡ symbol_seen r s
extreme_held r m side ls ix k d n term s u v hs l q w e h = held_by r.mode (array_row r (row.Extreme side) ix k) (symbol_value r.term s) (λ g. ap (λ a. scalar_value (row.Extreme side) (a ∷ [])) (held_given r.mode (value_is ix (r.line k)) g) ∙ by g (r.line k) refl)
  where
    made : IsGiven r.mode → symbol_value r.term s ≡ guarded_value r d (symbol_of base.Int term)
    made g = gives r (as_argument base.Int None (guarded_value r d (symbol_of base.Int term))) s u v g h

    by : IsGiven r.mode → (o : Option (List Content)) → r.line k ≡ o → scalar_value (row.Extreme side) (value_is ix o ∷ []) ≡ symbol_value r.term s
    by g None p = no_row side ∙ sym (made g ∙ guarded_none (is_true (r.term d)) (value_by base.Int (r.term term)) (line_fails r m k d n l q p))
    by g (Some xs) p =
        row_on side ix xs
        ∙ sym (line_ints r m side ls k d n xs hs l q w p)
        ∙ ap (value_by base.Int) e
        ∙ sym (made g ∙ guarded_by (is_true (r.term d)) (value_by base.Int (r.term term)) (line_holds r m k d n xs l q p))
