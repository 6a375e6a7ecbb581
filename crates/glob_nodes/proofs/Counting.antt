-- Counts and lists, one element more.
use Rattle.std.proofs.Common.{◌≡◌, ◌∙◌, ℕ, ℤ, zero, suc, pos, ◌+◌, ◌*◌, ◌-◌, ◌<◌, ◌≤◌, ◌+ℤ◌, Bool, true, false, cond, List, [], ◌∷◌, count_by, length, drop, slice_index_or, Some, refl, sym, ap, arith}
use Rattle.std.proofs.lemmas.Int.{ints}
use Rattle.std.proofs.lemmas.List.Sums.{sum_by-cons}
use Rattle.mz_operations.specs.declared.row.Arith.TheVariants as arith_row
use Rattle.mz_operations.specs.declared.row.Side.{Side}
use Rattle.mz_operations.specs.declared.row.Side.TheVariants.{Least, Greatest}
use Rattle.mz_operations.specs.Numbers.{computed}
use Rattle.mz_operations.specs.Views.{number_of_bool}
use Rattle.mz_arena.specs.Values.{Term, arith_term, cons_term, extreme_term, empty}
use Rattle.mz_arena.specs.Values as terms
use Rattle.mz_arena.specs.declared.node.NodeKind.{NodeKind}
use Rattle.mz_symbol.specs.Runs.{Run}
use Rattle.mz_symbol.specs.Readings.{Reading, Reads}
use Rattle.mz_symbol.specs.Makes.{GoesOnBy}
use Rattle.mz_symbol.specs.Symbols.{list_term}
use Rattle.mz_symbol_rows.proofs.GoingOn.{goes_most}
use Rattle.glob_nodes.specs.Says.{Gives}
use Rattle.glob_nodes.specs.StepsEach.{Given}
use Rattle.glob_nodes.specs.StepsNodes.{meaning_over, side_kind}
use Rattle.glob_nodes.proofs.Telling.{drop_all, drop_before}

abbrev pub count_term : ℕ → Term
count_term n = Some (terms.number (pos n))

pub gives_like : (old new : Run) (f g : Reading → Term) (id : ℕ) → ((r : Reading) → f r ≡ g r) → Gives old new f id → Gives old new g id
gives_like old new f g id e s = record { same = s.same; is = λ r q. s.is r q ∙ e r }

pub given_from : (m : ℕ) (old new : Run) (f g : Reading → Term) (id : ℕ) → GoesOnBy 0 old new → Gives old new f id → ((r : Reading) → f r ≡ g r) → Given m old new g id
given_from m old new f g id goes s e = record { goes = goes_most 0 m old new (omega arith) goes; gives = gives_like old new f g id e s }

-- ---- counts

pub count_begins : {A : Type 0} (p : A → Bool) (xs : List A) → Some (terms.number (pos 0)) ≡ count_term (count_by p (drop (length xs) xs))
count_begins p xs = ap (λ ys. count_term (count_by p ys)) (sym (drop_all xs))

one_added : (b : Bool) (n : ℕ) → number_of_bool b +ℤ pos n ≡ pos (cond b 1 0 + n)
one_added true n = omega (arith, ints)
one_added false n = omega (arith, ints)

one_counted : (b : Bool) (n : ℕ) → arith_term arith_row.Add (Some (terms.number (number_of_bool b))) (count_term n) ≡ count_term (cond b 1 0 + n)
unfolding arith_term computed
one_counted b n = ap (λ i. Some (terms.number i)) (one_added b n)

pub count_goes : {A : Type 0} (p : A → Bool) (d x : A) (xs : List A) (k : ℕ) → k ≤ length xs → 0 < k → x ≡ slice_index_or xs (k - 1) d → arith_term arith_row.Add (Some (terms.number (number_of_bool (p x)))) (count_term (count_by p (drop k xs))) ≡ count_term (count_by p (drop (k - 1) xs))
count_goes p d x xs k h q e = one_counted (p x) (count_by p (drop k xs)) ∙ ap count_term (sym (sum_by-cons (λ y. cond (p y) 1 0) x (drop k xs))) ∙ ap (λ ys. count_term (count_by p ys)) (sym (drop_before d x xs k h q e))

-- ---- lists

pub list_begins : (t : ℕ → Term) (xs : List ℕ) → Some empty ≡ list_term t (drop (length xs) xs)
unfolding list_term
list_begins t xs = ap (list_term t) (sym (drop_all xs))

list_more : (t : ℕ → Term) (x : ℕ) (xs : List ℕ) → cons_term (t x) (list_term t xs) ≡ list_term t (x ∷ xs)
unfolding list_term
list_more t x xs = refl

pub list_goes : (t : ℕ → Term) (xs : List ℕ) (k : ℕ) → k ≤ length xs → 0 < k → cons_term (t (slice_index_or xs (k - 1) 0)) (list_term t (drop k xs)) ≡ list_term t (drop (k - 1) xs)
list_goes t xs k h q = list_more t (slice_index_or xs (k - 1) 0) (drop k xs) ∙ ap (list_term t) (sym (drop_before 0 (slice_index_or xs (k - 1) 0) xs k h q refl))

side_term : (side : Side) (a : ℕ) (r : Reading) → meaning_over (side_kind side) a 0 r ≡ extreme_term side (r.term a)
side_term Least a r = refl
side_term Greatest a r = refl

pub extreme_gives : (old mid new : Run) (side : Side) (k : NodeKind) (xs : List ℕ) (list id : ℕ) → k ≡ side_kind side → GoesOnBy 8 mid new → Gives old mid (λ r. list_term r.term xs) list → Gives mid new (meaning_over k list 0) id → Gives old new (λ r. extreme_term side (list_term r.term xs)) id
extreme_gives old mid new side k xs list id e goes f g = record {
  same = λ r q. f.same r (goes.back r q) ∙ g.same r q;
  is = λ r q. g.is r q ∙ ap (λ k. meaning_over k list 0 r) e ∙ side_term side list r ∙ ap (extreme_term side) (f.is r (goes.back r q));
}
