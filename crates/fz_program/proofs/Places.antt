-- How many places index ranges have, by division.
use Rattle.std.proofs.Common.{◌≡◌, ◌≢◌, ℕ, ◌+◌, ◌*◌, ◌<◌, ◌≤◌, length, get_or, ◌/◌, ◌%◌, List, [], ◌∷◌, true, refl, sym, subst, arith, mul_comm}
use Rattle.std.specs.Prelude.{pos}
use Rattle.std.specs.List.{list_all}
use Rattle.std.proofs.lemmas.Nat.{div-mul-add, mod-mul-add}
use Rattle.mz_value.specs.Ranges.{Range, cardinality, range_of}
use Rattle.fz_program.specs.Flat.{place_count, is_index, is_index_range}

pub quotient_of : (s p n : ℕ) → 0 < s → s * p ≡ n → p ≡ n / s
quotient_of s p n some h =
    let turn : p * s + 0 ≡ n = omega (arith, h, mul_comm p s) in
    sym (subst (λ k. k / s ≡ p) turn (div-mul-add p s 0 some))

pub no_remainder : (s p n : ℕ) → 0 < s → s * p ≡ n → n % s ≡ 0
no_remainder s p n some h =
    let turn : p * s + 0 ≡ n = omega (arith, h, mul_comm p s) in
    subst (λ k. k % s ≡ 0) turn (mod-mul-add p s 0 some)

pub all_ranges : (ranges : List Range) → is_index ranges ≡ true → list_all is_index_range ranges ≡ true
all_ranges [] e = refl
all_ranges (r ∷ rs) e = e

-- the first range doesn't divide the places that are left
pub no_places : (rest : List Range) (size left : ℕ) → 1 ≤ length rest → size ≡ cardinality (range_of (get_or rest 0 (pos 0, pos 0)).0 (get_or rest 0 (pos 0, pos 0)).1) → size ≢ 0 → left % size ≢ 0 → place_count rest ≡ left → ⊥
unfolding place_count
no_places [] size left some is n m h = absurd (omega (arith, some))
no_places (r ∷ rs) size left some is n m h = m (no_remainder size (place_count rs) left (omega (arith, n)) (rw is h))
