-- Mirror of src/powers.rt; private clauses only.
use Rattle.std.specs.Prelude.{ℕ, suc, ◌-◌, ◌%◌, ℤ, pos, negsuc, Bool, ◌&&◌, int_le, nat_lt, if◌then◌else◌}
use Rattle.mz_interval.specs.Ends.{Ends}

-- -1, 0 or 1
abbrev pub is_unit : ℤ → Bool
is_unit x = int_le (negsuc 0) x && int_le x (pos 1)

abbrev pub are_units : Ends → Bool
are_units e = is_unit e.0 && is_unit e.1

-- an exponent of 2 at most with the same power of such ends
abbrev pub reduced : ℕ → ℕ
reduced n = if nat_lt n 3 then n else suc ((n - 1) % 2)
