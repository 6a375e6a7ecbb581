-- Counts of what went wrong. They stand still at the last value of u64.
use Rattle.std.specs.Prelude.{◌≡◌, ℕ, ◌+◌, ◌-◌, ◌^◌, ◌≤◌, min, refl}

-- a count that rose, or that stands at its type's end
abbrev pub Rose : ℕ → ℕ → Type 0
Rose before now = (before ≤ now) × (min (before + 1) (2 ^ 64 - 1) ≤ now)

-- a count that is raised by one
abbrev pub raised : ℕ → ℕ
raised count = min (count + 1) (2 ^ 64 - 1)

-- one call more, and none past the last u64
pub raised-zero : raised 0 ≡ 1
raised-zero = refl

pub raised-last : raised (2 ^ 64 - 1) ≡ 2 ^ 64 - 1
raised-last = refl
