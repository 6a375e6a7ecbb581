-- Work against a budget.
use Rattle.std.proofs.Common.{◌≡◌, ℕ, ◌+◌, ◌<◌, ◌≤◌, ◌^◌, min, nat_lt, Bool, true, false, refl, sym, ap, arith}
use Rattle.std.proofs.lemmas.Bool.Decides.{nat_tests}
use Rattle.mz_base.specs.declared.fault.Span.{Span}
use Rattle.mz_meaning.specs.Runs.{State, spend}

-- a budget below 2^63 doesn't tell numbers apart that are equal below it
both_over : (b w n m : ℕ) → b < 2 ^ 63 → min (2 ^ 63) n ≡ min (2 ^ 63) m → b < w + n → b < w + m
both_over b w n m h e p = omega (arith)

same_within : (b w n m : ℕ) → b < 2 ^ 63 → min (2 ^ 63) n ≡ min (2 ^ 63) m → w + n ≤ b → n ≡ m
same_within b w n m h e p = omega (arith)

pub spend_capped : (b : ℕ) (at : Span) (n m : ℕ) (s : State) → b < 2 ^ 63 → min (2 ^ 63) n ≡ min (2 ^ 63) m → spend b at m s ≡ spend b at n s
spend_capped b at n m s h e = by (nat_lt b (s.work + n)) refl
  where
    by : (t : Bool) → nat_lt b (s.work + n) ≡ t → spend b at m s ≡ spend b at n s
    by true p =
        let over : nat_lt b (s.work + m) ≡ true = grind (arith, nat_tests, both_over b s.work n m h e) in
        rw (p, over) refl
    by false p = ap (λ k. spend b at k s) (sym (same_within b s.work n m h e (grind (arith, nat_tests))))
