-- How much work a run has spent where it ends.
use Rattle.std.specs.Prelude.{ℕ, ◌≤◌, ◌+◌}
use Rattle.mz_meaning.specs.Runs.{Answer, Out, Stopped}

-- the work is at most the budget and 1, where the run goes through
abbrev pub EndsWithin : {A : Type 0} → ℕ → Answer A → Type 0
EndsWithin b (Out x s) = s.work ≤ b + 1
EndsWithin b (Stopped f) = Unit {0}
