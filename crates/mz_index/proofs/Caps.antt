-- Numbers of which no more than a cap is told.
use Rattle.std.proofs.Common.{◌≡◌, ◌∙◌, ℕ, zero, suc, ◌+◌, ◌*◌, ◌<◌, ◌≤◌, ◌-◌, ◌^◌, min, sym, ap, arith}
use Rattle.std.specs.Prelude.{pos}
use Rattle.std.proofs.lemmas.Int.{ints, by_lt_z}
use Rattle.std.proofs.lemmas.Nat.{mul-le}

le_times : (q a : ℕ) → a ≤ suc q * a
le_times q a = grind arith

big : (k q c : ℕ) → k < c → min k (suc q * min k c) ≡ min k (suc q * c)
big k q c l =
    let first : min k c ≡ k = omega arith in
    let small = le_times q k in
    let great = le_times q c in
    let one : min k (suc q * k) ≡ k = omega (arith, small) in
    let two : min k (suc q * c) ≡ k = omega (arith, great) in
    ap (λ d. min k (suc q * d)) first ∙ one ∙ sym two

pub times_fit : (a b : ℕ) → a ≤ 2 ^ 64 → b < 2 ^ 64 → a * b ≤ 2 ^ 64 * (2 ^ 64 - 1)
times_fit a b l m = mul-le a b (2 ^ 64) (2 ^ 64 - 1) l (omega arith)

pub capped_times : (k o c : ℕ) → min k (o * min k c) ≡ min k (o * c)
capped_times k zero c = grind arith
capped_times k (suc q) c =
    by_lt_z (pos k) (pos c)
    (λ l. big k q c (omega (arith, ints)))
    (λ l. let same : min k c ≡ c = omega (arith, ints) in ap (λ d. min k (suc q * d)) same)

pub capped_place : (k o c p : ℕ) → min k (o * min k c + min k p) ≡ min k (o * c + p)
capped_place k o c p =
    let t = capped_times k o c in
    omega (arith, t)
