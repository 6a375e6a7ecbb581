-- What accesses cost.
use Rattle.std.proofs.Common.{◌≡◌, ℕ, ◌+◌, ◌*◌, Bool, true, false, nat_eq, sym, ap, arith, if◌then◌else◌}
use Rattle.mz_symbol_access.specs.AccessValues.{place_charge}

pub one_index : (n : ℕ) → n ≡ 1 → 40 ≡ 8 * n + place_charge n
one_index n e = ap (λ k. 8 * k + place_charge k) (sym e)

more_by : (n : ℕ) (b : Bool) → b ≡ false → 98 * n ≡ 8 * n + (if b then 32 else 90 * n)
more_by n true e = absurd (cc)
more_by n false e = omega arith

pub more_indices : (n : ℕ) → nat_eq n 1 ≡ false → 98 * n ≡ 8 * n + place_charge n
more_indices n e = more_by n (nat_eq n 1) e
