-- Nodes of integers, and sums that grow by an element.
use Rattle.std.proofs.Common.{◌≡◌, ◌∙◌, ℕ, ℤ, pos, ◌+◌, ◌-◌, ◌<◌, ◌≤◌, Bool, true, false, ◌&&◌, List, drop, length, slice_index_or, Option, Some, None, refl, sym, ap, arith}
use Rattle.mz_operations.specs.declared.row.Arith.TheVariants as arith_row
use Rattle.mz_operations.specs.Numbers.{computed}
use Rattle.mz_operations.specs.Views.{◌>>=◌}
use Rattle.mz_arena.specs.Values.{Term, as_number, arith_term}
use Rattle.mz_arena.specs.Values as terms
use Rattle.mz_symbol.specs.Runs.{Run}
use Rattle.mz_symbol.specs.Readings.{Reading, Reads, state_of}
use Rattle.mz_symbol.specs.Makes.{GoesOnBy}
use Rattle.mz_symbol_rows.proofs.GoingOn.{goes_most}
use Rattle.glob_nodes.specs.Says.{Gives, Says, Tells, num}
use Rattle.glob_nodes.proofs.Telling.{drop_all, drop_before, goes_more}
use Rattle.glob_nodes.specs.Numbers.{IsNumber, plus, product, added}
use Rattle.glob_nodes.specs.StepsSums.{SumSoFar}

sum_num : (t u : Term) → as_number (arith_term arith_row.Add t u) ≡ plus (as_number t) (as_number u)
unfolding arith_term computed
sum_num t u = by (as_number t) (as_number u)
  where
    by : (o p : Option ℤ) → as_number (o >>= λ i. p >>= λ j. computed arith_row.Add i j >>= λ n. Some (terms.number n)) ≡ plus o p
    by None p = refl
    by (Some i) None = refl
    by (Some i) (Some j) = refl

product_num : (t u : Term) → as_number (arith_term arith_row.Mul t u) ≡ product (as_number t) (as_number u)
unfolding arith_term computed
product_num t u = by (as_number t) (as_number u)
  where
    by : (o p : Option ℤ) → as_number (o >>= λ i. p >>= λ j. computed arith_row.Mul i j >>= λ n. Some (terms.number n)) ≡ product o p
    by None p = refl
    by (Some i) None = refl
    by (Some i) (Some j) = refl

pub sum_is : (old new : Run) (a b id : ℕ) → Gives old new (λ r. arith_term arith_row.Add (r.term a) (r.term b)) id → IsNumber old new (λ r. plus (num r a) (num r b)) id
sum_is old new a b id g = record { same = g.same; is = λ r h. ap as_number (g.is r h) ∙ sum_num (r.term a) (r.term b) }

pub product_is : (old new : Run) (a b id : ℕ) → Gives old new (λ r. arith_term arith_row.Mul (r.term a) (r.term b)) id → IsNumber old new (λ r. product (num r a) (num r b)) id
product_is old new a b id g = record { same = g.same; is = λ r h. ap as_number (g.is r h) ∙ product_num (r.term a) (r.term b) }

pub number_is : (old new : Run) (f : Reading → ℤ) (id : ℕ) → Gives old new (λ r. Some (terms.number (f r))) id → IsNumber old new (λ r. Some (f r)) id
number_is old new f id g = record { same = g.same; is = λ r h. ap as_number (g.is r h) }

-- ---- a truth value over an integer that was made

pub says_over_number : (old mid new : Run) (f : Reading → Option ℤ) (g : Reading → Option ℤ → Bool) (acc id m : ℕ) → IsNumber old mid f acc → GoesOnBy m mid new → Says mid new (λ r. g r (num r acc)) id → Says old new (λ r. g r (f r)) id
says_over_number old mid new f g acc id m t goes s = record {
  same = λ r q. t.same r (goes.back r q) ∙ s.same r q;
  is = λ r q. s.is r q ∙ ap (λ x. terms.bit (g r x)) (t.is r (goes.back r q));
  tells = λ r q. s.tells r q ∙ ap (g r) (t.is r (goes.back r q));
}

-- ---- sums

pub sum_from : (m : ℕ) (old new : Run) (f g : Reading → Option ℤ) (id : ℕ) → GoesOnBy 0 old new → IsNumber old new f id → ((r : Reading) → f r ≡ g r) → SumSoFar m old new g id
sum_from m old new f g id goes s e = record { goes = goes_most 0 m old new (omega arith) goes; is = record { same = s.same; is = λ r q. s.is r q ∙ e r } }

pub number_like : (old new : Run) (f g : Reading → Option ℤ) (id : ℕ) → ((r : Reading) → f r ≡ g r) → IsNumber old new f id → IsNumber old new g id
number_like old new f g id e s = record { same = s.same; is = λ r q. s.is r q ∙ e r }

pub sum_step : (n m p : ℕ) (old mid new : Run) (f h : Reading → Option ℤ) (g : Reading → Option ℤ → Option ℤ) (acc id : ℕ) → n + m ≤ p → SumSoFar n old mid f acc → GoesOnBy m mid new → IsNumber mid new (λ r. g r (num r acc)) id → ((r : Reading) → g r (f r) ≡ h r) → SumSoFar p old new h id
sum_step n m p old mid new f h g acc id most t goes s e = record {
  goes = goes_more n m p old mid new most t.goes goes;
  is = record {
    same = λ r q. t.is.same r (goes.back r q) ∙ s.same r q;
    is = λ r q. s.is r q ∙ ap (g r) (t.is.is r (goes.back r q)) ∙ e r;
  };
}

pub added_begins : {A : Type 0} (f : A → Option ℤ) (xs : List A) → Some (pos 0) ≡ added f (drop (length xs) xs)
added_begins f xs = ap (added f) (sym (drop_all xs))

pub added_goes : {A : Type 0} (f : A → Option ℤ) (d x : A) (xs : List A) (k : ℕ) → k ≤ length xs → 0 < k → x ≡ slice_index_or xs (k - 1) d → plus (f x) (added f (drop k xs)) ≡ added f (drop (k - 1) xs)
added_goes f d x xs k h q e = ap (added f) (sym (drop_before d x xs k h q e))

pub and_true : (b : Bool) → (b && true) ≡ b
and_true true = refl
and_true false = refl

-- a run that stays as it is
pub stays : (n : ℕ) (s : Run) → GoesOnBy n s s
stays n s = record { back = λ r h. h; paid = omega arith }

-- a truth value over nodes that were made before
pub tells_from : (old mid new : Run) (f h : Reading → Bool) (id m : ℕ) → ((r : Reading) → Reads r mid → state_of r old ≡ state_of r mid) → GoesOnBy m mid new → Tells mid new f id → ((r : Reading) → Reads r mid → f r ≡ h r) → Tells old new h id
tells_from old mid new f h id m same goes t e = record {
  same = λ r q. same r (goes.back r q) ∙ t.same r q;
  tells = λ r q. t.tells r q ∙ e r (goes.back r q);
}
