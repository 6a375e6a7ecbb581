-- Declared index sets of what has no index ranges of its own.
use Rattle.std.proofs.Common.{◌≡◌, ◌∙◌, ℕ, zero, suc, ◌+◌, ◌<◌, ◌≤◌, ◌^◌, min, List, [], ◌∷◌, length, map, Option, None, slice_get, refl, sym, ap, arith}
use Rattle.std.specs.Prelude.{Result, IfOk}
use Rattle.mz_value.specs.Ranges.{Range}
use Rattle.mz_operations.specs.Arrays.{place_count}
use Rattle.mz_meaning.specs.Arrays.{Want, range_for, ranges_from, declared_ranges, declared_count}
use Rattle.mz_meaning.specs.Cells.{undefined}
use Rattle.mz_eval_declared.specs.declared.want.Want as code
use Rattle.mz_eval_declared.specs.Wants.{wants_of}

abbrev no_ranges : List Range
no_ranges = []

none_at : (k : ℕ) → slice_get no_ranges k ≡ None
none_at zero = refl
none_at (suc k) = refl

ranges_at : (k : ℕ) (ws : List Want) → map (λ w. range_for w None) ws ≡ ranges_from k ws []
ranges_at k [] = refl
ranges_at k (w ∷ ws) = ap (λ o. range_for w o ∷ map (λ w. range_for w None) ws) (sym (none_at k)) ∙ ap (λ rs. range_for w (slice_get no_ranges k) ∷ rs) (ranges_at (k + 1) ws)

pub ranges_each : (ws : List Want) → map (λ w. range_for w None) ws ≡ declared_ranges ws []
ranges_each ws = ranges_at 0 ws

pub same_count : (n m : ℕ) → min (2 ^ 63) n ≡ min (2 ^ 63) m → n < 2 ^ 63 → n ≡ m
same_count n m e h = omega arith

-- an array with index sets
pub some_places : {E : Type 0} (ws : List code.Want) (x : Result ℕ E) → 0 < length ws → IfOk x (λ n. n ≡ declared_count (wants_of ws) undefined) → IfOk x (λ n. n ≡ place_count (declared_ranges (wants_of ws) []))
some_places [] x h e = absurd (omega arith)
some_places (w ∷ ws) x h e = e
