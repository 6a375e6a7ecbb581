-- A source in memory that never fails, as contracts see it.
use Rattle.std.specs.Prelude.{ℕ, List}

-- the bytes left, and the most that one call gives
pub record SureBytes : Type 0 where
  pub left : List ℕ
  pub most : ℕ
