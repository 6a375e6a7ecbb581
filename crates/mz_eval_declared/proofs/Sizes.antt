-- Shapes of declared index sets.
use Rattle.std.proofs.Common.{◌≡◌, ℕ, min, ◌<◌, List, [], ◌∷◌, length, refl, ap, ◌∙◌, arith}
use Rattle.std.specs.Prelude.{Result, IfOk, Bool, true, false, not, ◌&&◌, ◌||◌, nat_eq}
use Rattle.std.specs.List.{list_all}
use Rattle.mz_value.specs.Ranges.{Range}
use Rattle.mz_operations.specs.Arrays.{place_count}
use Rattle.mz_builtin_values.specs.Shapes.{cap}
use Rattle.mz_meaning.specs.Arrays.{Want, declared_count, declared_ranges, fits_shape, is_own, own_ranges}
use Rattle.mz_meaning.specs.Cells.{Cell}
use Rattle.mz_eval_declared.specs.declared.want.Want as code
use Rattle.mz_eval_declared.specs.Wants.{wants_of}

twice : (b : Bool) → b ≡ not (not b)
twice true = refl
twice false = refl

pub fitting : (xs : List Want) (own ranges : List Range) (n : ℕ) (p q r : Bool) → ranges ≡ declared_ranges xs own → p ≡ nat_eq (place_count ranges) n → q ≡ (list_all (λ x. not (is_own x)) xs || nat_eq (length xs) (length own)) → r ≡ (p && q) → r ≡ fits_shape xs own n
fitting xs own ranges n p q r e f g h =
    h ∙ ap (λ z. z && q) (f ∙ ap (λ rs. nat_eq (place_count rs) n) e)
    ∙ ap (λ z. nat_eq (place_count (declared_ranges xs own)) n && z) (g ∙ ap (λ b. b || nat_eq (length xs) (length own)) (twice (list_all (λ x. not (is_own x)) xs)))

-- ---- how many elements are declared

pub none_counted : (ws : List code.Want) (c : Cell) → length ws < 1 → min cap 0 ≡ min cap (declared_count (wants_of ws) c)
none_counted [] c l = refl
none_counted (w ∷ ws) c l = absurd (omega arith)

pub some_counted : {E : Type 0} (ws : List code.Want) (c : Cell) (r : Result ℕ E) → 0 < length ws → IfOk r (λ n. min cap n ≡ min cap (place_count (declared_ranges (wants_of ws) (own_ranges c)))) → IfOk r (λ n. min cap n ≡ min cap (declared_count (wants_of ws) c))
some_counted [] c r l e = absurd (omega arith)
some_counted (w ∷ ws) c r l e = e
