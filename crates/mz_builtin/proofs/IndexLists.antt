-- One more dimension.
use Rattle.std.proofs.Common.{◌≡◌, ℕ, zero, suc, ◌-◌, ◌≤◌, List, ap, arith}
use Rattle.mz_core.specs.declared.types.Ix.{Ix}
use Rattle.mz_builtin.specs.Readings.{joined, index_lists}

pub index_lists_next : (indices : List Ix) (n : ℕ) → 1 ≤ n → index_lists indices n ≡ joined indices (index_lists indices (n - 1))
unfolding index_lists
index_lists_next indices zero h = absurd (omega arith)
index_lists_next indices (suc n) h = let e : n ≡ suc n - 1 = omega arith in ap (λ k. joined indices (index_lists indices k)) e
