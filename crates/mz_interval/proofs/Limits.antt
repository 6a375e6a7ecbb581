-- What an answer that may be None says of its range.
use Rattle.std.proofs.Common.{◌≡◌, ℤ, ◌≤ℤ◌, Bool, true, false, Option, Some, None, option_map, IfSome, int_le, ap, subst, ◌∙◌, refl, arith, ◌&&◌, cond}
use Rattle.std.proofs.lemmas.Int.{ints}
use Rattle.mz_interval.specs.Ends.{Ends, Encloses, IsInterval, is_number, if_in_limit, if_interval}
use Rattle.mz_interval.specs.Interval.{ends}
use Rattle.mz_interval.specs.declared.interval.Interval.{Interval}

-- a range that has a number is an interval where its ends lie in the limit
pub if_interval-ordered : (e : Ends) → e.0 ≤ℤ e.1 → if_interval e ≡ if_in_limit e
if_interval-ordered e h = by (int_le e.0 e.1) refl
  where
    by : (t : Bool) → int_le e.0 e.1 ≡ t → cond t (if_in_limit e) None ≡ if_in_limit e
    by true p = refl
    by false p = absurd (omega (arith, ints))

limited : (r : Option Ends) (t : Bool) (e : Ends) (x : ℤ) → r ≡ cond t (Some e) None → Encloses e x → IfSome r (λ f. Encloses f x)
limited None t e x p h = tt
limited (Some f) true e x p h = let q : e ≡ f = cc in subst (λ (g : Ends). Encloses g x) q h
limited (Some f) false e x p h = let q : ⊥ = cc in absurd q

-- the answer encloses what the range encloses
pub some_encloses : (r : Option Interval) (e : Ends) (x : ℤ) → option_map ends r ≡ if_in_limit e → Encloses e x → IfSome r (λ i. Encloses (ends i) x)
some_encloses None e x p h = tt
some_encloses (Some i) e x p h = limited (Some (ends i)) (is_number e.0 && is_number e.1) e x p h

-- the answer for two numbers that are the ends of a range that has a number
pub some_row : (r : Option Interval) (a b : ℤ) (e : Ends) → option_map ends r ≡ if_interval (a, b) → a ≡ e.0 → b ≡ e.1 → e.0 ≤ℤ e.1 → option_map ends r ≡ if_in_limit e
some_row r a b e p lo hi h = p ∙ ap if_interval (λ i. (lo i, hi i)) ∙ if_interval-ordered e h

-- an interval's ends are those of one
pub are_interval : (i : Interval) → IsInterval (ends i)
are_interval i = record { ordered = i.ordered; from = i.lo_in_limit; to = i.hi_in_limit }
