-- What the terms tell is what the rows say of numbers.
use Rattle.std.proofs.Common.{◌≡◌, ◌∙◌, ℕ, zero, suc, ◌<◌, ◌≤◌, ◌-◌, min, nat_lt, nat_eq, ℤ, int_le, int_lt, Bool, true, false, ◌&&◌, ◌||◌, List, [], ◌∷◌, length, drop, map, Option, Some, None, slice_index_or, refl, sym, ap, arith}
use Rattle.std.proofs.lemmas.Int.{ints}
use Rattle.std.proofs.lemmas.Bool.Decides.{nat_tests}
use Rattle.std.proofs.lemmas.Bool.Decides.{Decides-int_eq}
use Rattle.std.specs.List.{list_all, list_any}
use Rattle.std.specs.Ordering.{int_eq}
use Rattle.mz_operations.specs.declared.row.Comparison.{Comparison}
use Rattle.mz_operations.specs.declared.row.Comparison.TheVariants as row
use Rattle.mz_operations.specs.declared.row.Side.{Side}
use Rattle.mz_operations.specs.Numbers.{ordered, toward}
use Rattle.mz_arena.specs.Values.{Term, as_number, bit, as_numbers, cons_term, extreme_term, extreme_value, extreme_number}
use Rattle.mz_arena.specs.Values as terms
use Rattle.mz_globals.specs.Lists.{pairwise, stepwise, stepwise_from, extreme_from, extreme_of}
use Rattle.mz_globals.specs.Order as order
use Rattle.mz_symbol.specs.Symbols.{list_term}
use Rattle.mz_symbol.specs.Readings.{Reading}
use Rattle.glob_nodes.specs.declared.nodes.Compare.TheVariants.{Equal, Differ, AtMost, Less}
use Rattle.glob_nodes.specs.declared.nodes.Join.TheVariants.{Either}
use Rattle.mz_symbol.specs.Runs.{Run}
use Rattle.mz_symbol.specs.Makes.{GoesOnBy}
use Rattle.glob_nodes.specs.Says.{Gives, Says, num, compares, joined_each}
use Rattle.glob_nodes.proofs.Rows.{pairs_there, steps_there}
use Rattle.glob_nodes.proofs.Telling.{any_joined, drop_before}
use Rattle.glob_order.specs.Senses.{differ_or_zero, in_order, lexed, preceded_by}

-- a truth value over a term that was made
pub says_over : (old mid new : Run) (f : Reading → Term) (g : Reading → Term → Bool) (acc id m : ℕ) → Gives old mid f acc → GoesOnBy m mid new → Says mid new (λ r. g r (r.term acc)) id → Says old new (λ r. g r (f r)) id
says_over old mid new f g acc id m t goes s = record {
  same = λ r q. t.same r (goes.back r q) ∙ s.same r q;
  is = λ r q. s.is r q ∙ ap (λ x. bit (g r x)) (t.is r (goes.back r q));
  tells = λ r q. s.tells r q ∙ ap (g r) (t.is r (goes.back r q));
}

-- ---- one array

pub different_told : (r : Reading) (ids : List ℕ) (ns : List ℤ) → map (num r) ids ≡ map (λ n. Some n) ns → pairwise (λ x y. compares Differ (num r x) (num r y)) ids ≡ order.all_different ns
different_told r ids ns h = pairs_there (compares Differ) order.differ r ids ns (λ x y. refl) h

pub but_zero_told : (r : Reading) (ids : List ℕ) (ns : List ℤ) → map (num r) ids ≡ map (λ n. Some n) ns → pairwise (λ x y. differ_or_zero (num r x) (num r y)) ids ≡ order.different_but_zero ns
but_zero_told r ids ns h = pairs_there differ_or_zero order.differ_or_zero r ids ns (λ x y. refl) h

in_order_is : (op : Comparison) (x y : ℤ) → in_order op (Some x) (Some y) ≡ ordered op x y
unfolding ordered
in_order_is row.Less x y = refl
in_order_is row.AtMost x y = refl
in_order_is row.Greater x y = refl
in_order_is row.AtLeast x y = refl

pub ordered_told : (op : Comparison) (r : Reading) (ids : List ℕ) (ns : List ℤ) → map (num r) ids ≡ map (λ n. Some n) ns → stepwise (λ x y. in_order op (num r x) (num r y)) ids ≡ order.is_ordered op ns
ordered_told op r ids ns h = steps_there (in_order op) (ordered op) r ids ns (in_order_is op) h

number_equal : (x y : ℤ) → int_eq x y ≡ true → x ≡ y
number_equal x y h = (Decides-int_eq x y).0 h

-- each is the next one where each is the first one
next_first : (x : ℤ) (ys : List ℤ) → stepwise_from int_eq x ys ≡ list_all (int_eq x) ys
next_first x [] = refl
next_first x (y ∷ ys) = by (next_first y ys) (int_eq x y) refl
  where
    rest : (z : ℤ) → z ≡ y → stepwise_from int_eq y ys ≡ list_all (int_eq y) ys → stepwise_from int_eq y ys ≡ list_all (int_eq z) ys
    rest z e k = k ∙ ap (λ w. list_all (int_eq w) ys) (sym e)

    by : stepwise_from int_eq y ys ≡ list_all (int_eq y) ys → (b : Bool) → int_eq x y ≡ b → (b && stepwise_from int_eq y ys) ≡ (b && list_all (int_eq x) ys)
    by k false e = refl
    by k true e = rest x (number_equal x y e) k

all_next : (ns : List ℤ) → stepwise int_eq ns ≡ order.all_equal ns
all_next [] = refl
all_next (n ∷ ns) = next_first n ns

pub equal_told : (r : Reading) (ids : List ℕ) (ns : List ℤ) → map (num r) ids ≡ map (λ n. Some n) ns → stepwise (λ x y. compares Equal (num r x) (num r y)) ids ≡ order.all_equal ns
equal_told r ids ns h = steps_there (compares Equal) int_eq r ids ns (λ x y. refl) h ∙ all_next ns

-- ---- members

any_map : {A B : Type 0} (p : B → Bool) (g : A → B) (xs : List A) → list_any (λ x. p (g x)) xs ≡ list_any p (map g xs)
any_map p g [] = refl
any_map p g (x ∷ xs) = ap (λ b. p (g x) || b) (any_map p g xs)

pub member_told : (r : Reading) (y : ℕ) (ids : List ℕ) (ns : List ℤ) (v : ℤ) → map (num r) ids ≡ map (λ n. Some n) ns → num r y ≡ Some v → joined_each Either (λ x. compares Equal (num r y) (num r x)) ids false ≡ list_any (int_eq v) ns
member_told r y ids ns v h e =
    any_joined (λ x. compares Equal (num r y) (num r x)) ids
    ∙ any_map (compares Equal (num r y)) (num r) ids
    ∙ ap (list_any (compares Equal (num r y))) h
    ∙ ap (λ o. list_any (compares Equal o) (map (λ n. Some n) ns)) e
    ∙ sym (any_map (compares Equal (Some v)) (λ n. Some n) ns)

-- ---- extremes

one_number : (t : Term) (n : ℤ) → as_number t ≡ Some n → t ≡ Some (terms.number n)
one_number None n h = absurd (cc)
one_number (Some (terms.number m)) n h = cc
one_number (Some v) n h = absurd (cc)

more_numbers : (n : ℤ) (ns : List ℤ) (t : Term) → as_numbers t ≡ Some ns → as_numbers (cons_term (Some (terms.number n)) t) ≡ Some (n ∷ ns)
unfolding cons_term
more_numbers n ns None h = absurd (cc)
more_numbers n ns (Some (terms.numbers ms)) h = cc
more_numbers n ns (Some terms.empty) h = cc
more_numbers n ns (Some v) h = absurd (cc)

list_numbers : (r : Reading) (ids : List ℕ) (ns : List ℤ) → map (num r) ids ≡ map (λ n. Some n) ns → as_numbers (list_term r.term ids) ≡ Some ns
unfolding list_term
list_numbers r [] [] h = refl
list_numbers r [] (n ∷ ns) h = absurd (cc)
list_numbers r (i ∷ ids) [] h = absurd (cc)
list_numbers r (i ∷ ids) (n ∷ ns) h =
    let first : num r i ≡ Some n = cc in
    let rest : map (num r) ids ≡ map (λ n. Some n) ns = cc in
    ap (λ t. as_numbers (cons_term t (list_term r.term ids))) (one_number (r.term i) n first) ∙ more_numbers n ns (list_term r.term ids) (list_numbers r ids ns rest)

extreme_same : (side : Side) (acc : ℤ) (ns : List ℤ) → extreme_number side acc ns ≡ extreme_from side acc ns
extreme_same side acc [] = refl
extreme_same side acc (n ∷ ns) = extreme_same side (toward side acc n) ns

extreme_is : (side : Side) (t : Term) (ns : List ℤ) → as_numbers t ≡ Some ns → as_number (extreme_term side t) ≡ extreme_of side ns
unfolding extreme_term
extreme_is side t ns h = ap (λ o. as_number (terms_of o)) h ∙ by ns
  where
    terms_of : Option (List ℤ) → Term
    terms_of None = None
    terms_of (Some ms) = extreme_value side ms

    by : (ns : List ℤ) → as_number (extreme_value side ns) ≡ extreme_of side ns
    by [] = refl
    by (m ∷ ms) = ap Some (extreme_same side m ms)

number_same : (o : Option ℤ) (m : ℤ) → compares Equal o (Some m) ≡ order.is_number_of o m
number_same None m = refl
number_same (Some n) m = refl

pub extreme_told : (side : Side) (r : Reading) (m : ℕ) (ids : List ℕ) (v : ℤ) (ns : List ℤ) → num r m ≡ Some v → map (num r) ids ≡ map (λ n. Some n) ns → compares Equal (as_number (extreme_term side (list_term r.term ids))) (num r m) ≡ order.is_extreme side v ns
extreme_told side r m ids v ns e h =
    ap (λ o. compares Equal o (num r m)) (extreme_is side (list_term r.term ids) ns (list_numbers r ids ns h))
    ∙ ap (compares Equal (extreme_of side ns)) e
    ∙ number_same (extreme_of side ns) v

-- ---- the order of lists

at_most_is : (x y : ℤ) (b : Bool) → (int_le x y && (int_lt x y || b)) ≡ (int_lt x y || (int_eq x y && b))
at_most_is x y true = grind (arith, ints)
at_most_is x y false = grind (arith, ints)

lex_numbers : (same : Bool) (ns ms : List ℤ) → lexed same (map (λ n. Some n) ns) (map (λ m. Some m) ms) ≡ order.comes_before same ns ms
lex_numbers same [] [] = refl
lex_numbers same [] (m ∷ ms) = refl
lex_numbers same (n ∷ ns) [] = refl
lex_numbers same (n ∷ ns) (m ∷ ms) = ap (λ b. int_le n m && (int_lt n m || b)) (lex_numbers same ns ms) ∙ at_most_is n m (order.comes_before same ns ms)

pub lex_told : (same : Bool) (r : Reading) (xs ys : List ℕ) (ns ms : List ℤ) → map (num r) xs ≡ map (λ n. Some n) ns → map (num r) ys ≡ map (λ n. Some n) ms → lexed same (map (num r) xs) (map (num r) ys) ≡ order.comes_before same ns ms
lex_told same r xs ys ns ms h k = ap (λ os. lexed same os (map (num r) ys)) h ∙ ap (lexed same (map (λ n. Some n) ns)) k ∙ lex_numbers same ns ms

-- where one list ends
abbrev ends_so : Bool → ℕ → ℕ → Bool
ends_so same m n = nat_lt m n || (same && nat_eq m n)

none_left : (same : Bool) → ends_so same 0 0 ≡ same
none_left true = refl
none_left false = refl

some_left : (same : Bool) (n : ℕ) → ends_so same 0 (suc n) ≡ true
some_left same n = grind (arith, nat_tests)

none_follows : (same : Bool) (n : ℕ) → ends_so same (suc n) 0 ≡ false
none_follows true n = grind (arith, nat_tests)
none_follows false n = grind (arith, nat_tests)

one_more : (same : Bool) (m n : ℕ) → ends_so same (suc m) (suc n) ≡ ends_so same m n
one_more true m n = grind (arith, nat_tests)
one_more false m n = grind (arith, nat_tests)

pub lex_begins : (same : Bool) (r : Reading) (xs ys : List ℕ) (k : ℕ) → k ≡ min (length xs) (length ys) → ends_so same (length xs) (length ys) ≡ lexed same (map (num r) (drop k xs)) (map (num r) (drop k ys))
lex_begins same r [] [] zero h = none_left same
lex_begins same r [] (y ∷ ys) zero h = some_left same (length ys)
lex_begins same r (x ∷ xs) [] zero h = none_follows same (length xs)
lex_begins same r (x ∷ xs) (y ∷ ys) zero h = absurd (omega (arith, h))
lex_begins same r (x ∷ xs) (y ∷ ys) (suc k) h = one_more same (length xs) (length ys) ∙ lex_begins same r xs ys k (omega (arith, h))
lex_begins same r [] ys (suc k) h = absurd (omega (arith, h))
lex_begins same r (x ∷ xs) [] (suc k) h = absurd (omega (arith, h))

pub lex_goes : (same : Bool) (r : Reading) (x y : ℕ) (xs ys : List ℕ) (k : ℕ) → k ≤ length xs → k ≤ length ys → 0 < k → x ≡ slice_index_or xs (k - 1) 0 → y ≡ slice_index_or ys (k - 1) 0
    → (compares AtMost (num r x) (num r y) && (compares Less (num r x) (num r y) || lexed same (map (num r) (drop k xs)) (map (num r) (drop k ys)))) ≡ lexed same (map (num r) (drop (k - 1) xs)) (map (num r) (drop (k - 1) ys))
lex_goes same r x y xs ys k h i p d e =
    ap (λ zs. lexed same (map (num r) (x ∷ drop k xs)) (map (num r) zs)) (sym (drop_before 0 y ys k i p e))
    ∙ ap (λ zs. lexed same (map (num r) zs) (map (num r) (drop (k - 1) ys))) (sym (drop_before 0 x xs k h p d))

-- ---- what precedes

precede_numbers : (s t : ℤ) (seen : Bool) (ns : List ℤ) → order.precedes s t seen ns ≡ (seen || preceded_by (Some s) (Some t) (map (λ n. Some n) ns))
precede_numbers s t true [] = refl
precede_numbers s t false [] = refl
precede_numbers s t true (n ∷ ns) = precede_numbers s t true ns
precede_numbers s t false (n ∷ ns) = ap (λ b. order.differ t n && b) (precede_numbers s t (int_eq s n) ns)

pub precede_told : (r : Reading) (s t : ℕ) (ids : List ℕ) (v w : ℤ) (ns : List ℤ) → num r s ≡ Some v → num r t ≡ Some w → map (num r) ids ≡ map (λ n. Some n) ns → preceded_by (num r s) (num r t) (map (num r) ids) ≡ order.precedes v w false ns
precede_told r s t ids v w ns i j h =
    ap (λ o. preceded_by o (num r t) (map (num r) ids)) i
    ∙ ap (λ o. preceded_by (Some v) o (map (num r) ids)) j
    ∙ ap (preceded_by (Some v) (Some w)) h
    ∙ sym (precede_numbers v w false ns)

pub precede_goes : (r : Reading) (s t x : ℕ) (ids : List ℕ) (k : ℕ) → k ≤ length ids → 0 < k → x ≡ slice_index_or ids (k - 1) 0
    → (compares Differ (num r t) (num r x) && (compares Equal (num r s) (num r x) || preceded_by (num r s) (num r t) (map (num r) (drop k ids)))) ≡ preceded_by (num r s) (num r t) (map (num r) (drop (k - 1) ids))
precede_goes r s t x ids k h p e = ap (λ is. preceded_by (num r s) (num r t) (map (num r) is)) (sym (drop_before 0 x ids k h p e))
