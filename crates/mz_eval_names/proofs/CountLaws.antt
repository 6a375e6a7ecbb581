-- Work and weight, and what they pay for.
use Rattle.std.proofs.Common.{◌≡◌, ◌∙◌, ℕ, ◌+◌, ◌*◌, ◌≤◌, ◌<◌, ◌^◌, min, nat_lt, Bool, true, false, List, [], ◌∷◌, refl, sym, ap, arith}
use Rattle.std.proofs.lemmas.Bool.Decides.{nat_tests}
use Rattle.mz_base.specs.declared.fault.Span.{Span}
use Rattle.mz_operations.specs.Arrays.{place_count}
use Rattle.mz_meaning.specs.Arrays.{Want, declared_count, declared_ranges, own_ranges}
use Rattle.mz_meaning.specs.Cells.{length_of, or_zero}
use Rattle.mz_meaning.specs.Runs.{State, spend}
use Rattle.mz_symbol.specs.Runs.{Run}
use Rattle.mz_symbol.specs.Readings.{Reading}
use Rattle.mz_symbol.specs.Makes.{Earns, GoesOn, GoesOnBy, owed, earned}
use Rattle.mz_eval_cells.specs.declared.types.Known.{Known}
use Rattle.mz_eval_cells.specs.declared.types.Known.TheVariants as known
use Rattle.mz_eval_cells.specs.Views.{cell_of, seen}
use Rattle.mz_eval_symbols.specs.Taken.{count_in}

-- what was earned is saved
pub earned_saved : (n k : ℕ) (old mid new : Run) → k ≤ 64 * n → Earns n old mid → GoesOnBy k mid new → GoesOn old new
earned_saved n k old mid new l e g = record {
  back = λ r h. e.back r (g.back r h);
  paid = sums (owed old) (owed mid) (owed new) (earned old) (earned mid) (earned new) (64 * n) k l e.paid g.paid;
}
  where
    sums : (a b c x y z m k : ℕ) → k ≤ m → b + (x + m) ≤ a + y → c + y ≤ b + z + k → c + x ≤ a + z + 0
    sums a b c x y z m k l p q = omega (arith, l, p, q)

-- ---- what cells tell is the same under each reading

own_seen : (r : Reading) (k : Known) → own_ranges (seen r k) ≡ own_ranges (cell_of k)
own_seen r known.Undefined = refl
own_seen r (known.One i) = refl
own_seen r (known.Array ix xs) = refl
own_seen r (known.Var x) = refl
own_seen r (known.Row ix xs) = refl
own_seen r (known.Unshaped d) = refl

count_seen : (r : Reading) (k : Known) → or_zero (length_of (seen r k)) ≡ count_in k
count_seen r known.Undefined = refl
count_seen r (known.One i) = refl
count_seen r (known.Array ix xs) = refl
count_seen r (known.Var x) = refl
count_seen r (known.Row ix xs) = refl
count_seen r (known.Unshaped d) = refl

pub handed_count : (r : Reading) (k : Known) (n : ℕ) → n ≡ count_in k → n ≡ or_zero (length_of (seen r k))
handed_count r k n e = e ∙ sym (count_seen r k)

declared_seen : (r : Reading) (ws : List Want) (k : Known) → declared_count ws (seen r k) ≡ declared_count ws (cell_of k)
declared_seen r [] k = refl
declared_seen r (w ∷ ws) k = ap (λ own. place_count (declared_ranges (w ∷ ws) own)) (own_seen r k)

-- ---- a budget below 2^63 doesn't tell numbers apart that are equal below it

both_over : (b w n m : ℕ) → b < 2 ^ 63 → min (2 ^ 63) n ≡ min (2 ^ 63) m → b < w + n → b < w + m
both_over b w n m h e p = omega (arith)

same_within : (b w n m : ℕ) → b < 2 ^ 63 → min (2 ^ 63) n ≡ min (2 ^ 63) m → w + n ≤ b → n ≡ m
same_within b w n m h e p = omega (arith)

spend_capped : (b : ℕ) (at : Span) (n m : ℕ) (s : State) → b < 2 ^ 63 → min (2 ^ 63) n ≡ min (2 ^ 63) m → spend b at m s ≡ spend b at n s
spend_capped b at n m s h e = by (nat_lt b (s.work + n)) refl
  where
    by : (t : Bool) → nat_lt b (s.work + n) ≡ t → spend b at m s ≡ spend b at n s
    by true p =
        let over : nat_lt b (s.work + m) ≡ true = grind (arith, nat_tests, both_over b s.work n m h e) in
        rw (p, over) refl
    by false p = ap (λ k. spend b at k s) (sym (same_within b s.work n m h e (grind (arith, nat_tests))))

pub spend_counted : (b : ℕ) (at : Span) (n : ℕ) (ws : List Want) (k : Known) (r : Reading) (s : State) → b < 2 ^ 63 → min (2 ^ 63) n ≡ min (2 ^ 63) (declared_count ws (cell_of k)) → spend b at (declared_count ws (seen r k)) s ≡ spend b at n s
spend_counted b at n ws k r s h e = ap (λ m. spend b at m s) (declared_seen r ws k) ∙ spend_capped b at n (declared_count ws (cell_of k)) s h e
