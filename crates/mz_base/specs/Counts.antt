-- What is counted against a limit.
use Rattle.std.specs.Prelude.{ℕ}

-- the steps of work that were spent of a budget
pub record Spending : Type 0 where
  pub budget : ℕ
  pub used : ℕ

-- how many are open, and how many may be
pub record Nesting : Type 0 where
  pub limit : ℕ
  pub nesting : ℕ
