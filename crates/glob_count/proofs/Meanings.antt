-- What the terms tell is what the rows say of numbers.
use Rattle.std.proofs.Common.{◌≡◌, ◌∙◌, ℕ, suc, ◌+◌, ◌-◌, ◌<◌, ◌≤◌, ℤ, pos, ◌+ℤ◌, Bool, true, false, ◌&&◌, cond, List, [], ◌∷◌, count_by, length, drop, map, slice_index_or, Option, Some, refl, sym, ap, arith, if◌then◌else◌}
use Rattle.std.proofs.lemmas.Int.{ints}
use Rattle.std.specs.List.{list_all}
use Rattle.mz_operations.specs.declared.row.Arith.TheVariants as arith_row
use Rattle.mz_operations.specs.Numbers.{computed}
use Rattle.mz_operations.specs.Views.{number_of_bool}
use Rattle.glob_nodes.proofs.Counting.{count_term}
use Rattle.glob_nodes.proofs.Rows.{all_map}
use Rattle.glob_nodes.proofs.Telling.{drop_before}
use Rattle.std.proofs.lemmas.List.Sums.{sum_by-cons}
use Rattle.std.specs.Ordering.{int_eq}
use Rattle.mz_arena.specs.Values.{Term, arith_term, as_number, bit}
use Rattle.mz_arena.specs.Values as terms
use Rattle.mz_globals.specs.declared.global.Relation.{Relation}
use Rattle.mz_globals.specs.declared.global.Relation.TheVariants as relation
use Rattle.mz_globals.specs.Counting as counting
use Rattle.mz_globals.specs.Order as order
use Rattle.mz_symbol.specs.Runs.{Run}
use Rattle.mz_symbol.specs.Readings.{Reading}
use Rattle.mz_symbol.specs.Makes.{GoesOnBy}
use Rattle.glob_nodes.specs.declared.nodes.Compare.TheVariants.{Equal, Differ}
use Rattle.glob_nodes.specs.Says.{Gives, Says, num, compares}
use Rattle.glob_count.specs.Senses.{counts_so, distinct_among}

-- a truth value over a number that was made
pub says_of : (old mid new : Run) (f : Reading → Term) (g : Reading → Option ℤ → Bool) (acc id m : ℕ) → Gives old mid f acc → GoesOnBy m mid new → Says mid new (λ r. g r (num r acc)) id → Says old new (λ r. g r (as_number (f r))) id
says_of old mid new f g acc id m t goes s = record {
  same = λ r q. t.same r (goes.back r q) ∙ s.same r q;
  is = λ r q. s.is r q ∙ ap (λ x. bit (g r (as_number x))) (t.is r (goes.back r q));
  tells = λ r q. s.tells r q ∙ ap (λ x. g r (as_number x)) (t.is r (goes.back r q));
}

count_map : {A B : Type 0} (p : B → Bool) (g : A → B) (xs : List A) → count_by (λ x. p (g x)) xs ≡ count_by p (map g xs)
count_map p g [] = refl
count_map p g (x ∷ xs) =
    sum_by-cons (λ y. cond (p (g y)) 1 0) x xs
    ∙ ap (λ n. cond (p (g x)) 1 0 + n) (count_map p g xs)
    ∙ sym (sum_by-cons (λ y. cond (p y) 1 0) (g x) (map g xs))

-- how often a value is an element
pub count_told : (r : Reading) (v : ℕ) (ids : List ℕ) (w : ℤ) (ns : List ℤ) → num r v ≡ Some w → map (num r) ids ≡ map (λ n. Some n) ns → count_by (λ x. compares Equal (num r v) (num r x)) ids ≡ order.times w ns
count_told r v ids w ns e h =
    count_map (compares Equal (num r v)) (num r) ids
    ∙ ap (count_by (compares Equal (num r v))) h
    ∙ ap (λ o. count_by (compares Equal o) (map (λ n. Some n) ns)) e
    ∙ sym (count_map (compares Equal (Some w)) (λ n. Some n) ns)

so_counted : (t : Relation) (n c : ℤ) → counts_so t (Some n) (Some c) ≡ counting.related t n c
so_counted relation.AtLeast n c = refl
so_counted relation.AtMost n c = refl
so_counted relation.Exactly n c = refl

pub occurs_told : (t : Relation) (r : Reading) (v n : ℕ) (ids : List ℕ) (w m : ℤ) (ns : List ℤ) → num r v ≡ Some w → num r n ≡ Some m → map (num r) ids ≡ map (λ n. Some n) ns → counts_so t (num r n) (Some (pos (count_by (λ x. compares Equal (num r v) (num r x)) ids))) ≡ counting.related t m (pos (order.times w ns))
occurs_told t r v n ids w m ns i j h =
    ap (λ o. counts_so t o (Some (pos (count_by (λ x. compares Equal (num r v) (num r x)) ids)))) j
    ∙ ap (λ k. counts_so t (Some m) (Some (pos k))) (count_told r v ids w ns i h)
    ∙ so_counted t m (pos (order.times w ns))

-- ---- different values

pub and_true : (b : Bool) → (b && true) ≡ b
and_true true = refl
and_true false = refl

one_added : (b : Bool) (n : ℕ) → number_of_bool b +ℤ pos n ≡ pos (cond b 1 0 + n)
one_added true n = omega (arith, ints)
one_added false n = omega (arith, ints)

one_counted : (b : Bool) (n : ℕ) → arith_term arith_row.Add (Some (terms.number (number_of_bool b))) (count_term n) ≡ count_term (cond b 1 0 + n)
unfolding arith_term computed
one_counted b n = ap (λ i. Some (terms.number i)) (one_added b n)

distinct_more : (r : Reading) (x : ℕ) (xs : List ℕ) → arith_term arith_row.Add (Some (terms.number (number_of_bool (list_all (λ y. compares Differ (num r x) (num r y)) xs)))) (count_term (distinct_among (map (num r) xs))) ≡ count_term (distinct_among (map (num r) (x ∷ xs)))
distinct_more r x xs =
    one_counted (list_all (λ y. compares Differ (num r x) (num r y)) xs) (distinct_among (map (num r) xs))
    ∙ ap (λ b. count_term (cond b 1 0 + distinct_among (map (num r) xs))) (all_map (compares Differ (num r x)) (num r) xs)

pub distinct_goes : (r : Reading) (ids : List ℕ) (k : ℕ) → k ≤ length ids → 0 < k → arith_term arith_row.Add (Some (terms.number (number_of_bool (list_all (λ y. compares Differ (num r (slice_index_or ids (k - 1) 0)) (num r y)) (drop k ids))))) (count_term (distinct_among (map (num r) (drop k ids)))) ≡ count_term (distinct_among (map (num r) (drop (k - 1) ids)))
distinct_goes r ids k h p = distinct_more r (slice_index_or ids (k - 1) 0) (drop k ids) ∙ ap (λ is. count_term (distinct_among (map (num r) is))) (sym (drop_before 0 (slice_index_or ids (k - 1) 0) ids k h p refl))

distinct_numbers : (ns : List ℤ) → distinct_among (map (λ n. Some n) ns) ≡ counting.different_values ns
distinct_numbers [] = refl
distinct_numbers (n ∷ ns) =
    ap (λ b. cond b 1 0 + distinct_among (map (λ n. Some n) ns)) (sym (all_map (compares Differ (Some n)) (λ m. Some m) ns))
    ∙ ap (λ k. cond (list_all (order.differ n) ns) 1 0 + k) (distinct_numbers ns)
    ∙ by (list_all (order.differ n) ns) (counting.different_values ns)
  where
    by : (b : Bool) (k : ℕ) → cond b 1 0 + k ≡ (if b then suc k else k)
    by true k = omega arith
    by false k = omega arith

pub distinct_told : (r : Reading) (n : ℕ) (ids : List ℕ) (v : ℤ) (ns : List ℤ) → num r n ≡ Some v → map (num r) ids ≡ map (λ n. Some n) ns → compares Equal (Some (pos (distinct_among (map (num r) ids)))) (num r n) ≡ int_eq (pos (counting.different_values ns)) v
distinct_told r n ids v ns e h =
    ap (compares Equal (Some (pos (distinct_among (map (num r) ids))))) e
    ∙ ap (λ os. compares Equal (Some (pos (distinct_among os))) (Some v)) h
    ∙ ap (λ k. int_eq (pos k) v) (distinct_numbers ns)
