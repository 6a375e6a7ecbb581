-- The objective of a FlatZinc program, and its kind.
use Rattle.std.specs.Prelude.{◌≡◌, ℕ, ℤ, pos, Option, Some, None, slice_index_or}
use Rattle.mz_arena.specs.declared.instance.InstanceGoal.{InstanceGoal}
use Rattle.mz_arena.specs.declared.instance.InstanceGoal.TheVariants as instance_goal
use Rattle.fz_program.specs.Values.{Values, number, number_in}
use Rattle.fz_program.specs.declared.program.FzGoal.{FzGoal}
use Rattle.fz_program.specs.declared.program.FzGoal.TheVariants.{Satisfy, Minimize, Maximize}

abbrev pub objective_at : Values → ℕ → Option ℤ
objective_at f k = Some (number_in (slice_index_or f k (number (pos 0))))

-- what a solution makes of the objective
abbrev pub objective_of : FzGoal → Values → Option ℤ
objective_of Satisfy f = None
objective_of (Minimize k) f = objective_at f k
objective_of (Maximize k) f = objective_at f k

abbrev pub IsMinimum : FzGoal → Type 0
IsMinimum g = (k : ℕ) × (g ≡ Minimize k)

abbrev pub IsMaximum : FzGoal → Type 0
IsMaximum g = (k : ℕ) × (g ≡ Maximize k)

-- a program minimizes where its instance does, and maximizes where it does
abbrev pub IsGoalOf : InstanceGoal → FzGoal → Type 0
IsGoalOf instance_goal.Satisfy g = g ≡ Satisfy
IsGoalOf (instance_goal.Minimize id) g = IsMinimum g
IsGoalOf (instance_goal.Maximize id) g = IsMaximum g
