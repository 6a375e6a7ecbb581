-- Costs of numbers that are capped.
use Rattle.std.proofs.Common.{◌≡◌, ℕ, zero, suc, ◌+◌, ◌*◌, ◌≤◌, min, sym, ap, ◌∙◌, arith, ◌⊎◌, inl, inr}
use Rattle.std.proofs.Math.Nat.{mul-le-mul_left}
use Rattle.mz_operations.specs.Costs.{cost_limit}

-- a number is within the cap, or above
split : (n : ℕ) → (min cost_limit n ≡ n) ⊎ ((min cost_limit n ≡ cost_limit) × (cost_limit ≤ n))
split n = grind (arith)

reached : (n : ℕ) → cost_limit ≤ n → min cost_limit n ≡ cost_limit
reached n l = omega (arith, l)

pub capped_square : (n : ℕ) → min cost_limit (1 + min cost_limit n * min cost_limit n) ≡ min cost_limit (1 + n * n)
capped_square n = by (split n)
  where
    by : (min cost_limit n ≡ n) ⊎ ((min cost_limit n ≡ cost_limit) × (cost_limit ≤ n)) → min cost_limit (1 + min cost_limit n * min cost_limit n) ≡ min cost_limit (1 + n * n)
    by (inl e) = ap (λ m. min cost_limit (1 + m * m)) e
    by (inr p) =
        let some : 1 ≤ n = omega (arith, p.1) in
        let great : n * 1 ≤ n * n = mul-le-mul_left n some in
        ap (λ m. min cost_limit (1 + m * m)) p.0 ∙ sym (reached (1 + n * n) (omega (arith, p.1, great)))

pub capped_steps : (w y : ℕ) → min cost_limit (1 + w * (1 + min cost_limit y)) ≡ min cost_limit (1 + w * (1 + y))
capped_steps w y = by w (split y)
  where
    by : (v : ℕ) → (min cost_limit y ≡ y) ⊎ ((min cost_limit y ≡ cost_limit) × (cost_limit ≤ y)) → min cost_limit (1 + v * (1 + min cost_limit y)) ≡ min cost_limit (1 + v * (1 + y))
    by v (inl e) = ap (λ m. min cost_limit (1 + v * (1 + m))) e
    by zero (inr p) = omega arith
    by (suc v) (inr p) =
        let less : 1 + cost_limit ≤ suc v * (1 + cost_limit) = omega arith in
        let more : suc v * (1 + cost_limit) ≤ suc v * (1 + y) = mul-le-mul_left (suc v) (omega (arith, p.1)) in
        ap (λ m. min cost_limit (1 + suc v * (1 + m))) p.0 ∙ reached (1 + suc v * (1 + cost_limit)) (omega (arith, less)) ∙ sym (reached (1 + suc v * (1 + y)) (omega (arith, less, more)))
