-- What an answer of the code, with the work that is spent, says of a run. Where no values are there, a run changes nothing but the work.
use Rattle.std.specs.Prelude.{ℕ, [], Result}
use Rattle.mz_base.specs.declared.stop.Stop.{Stop}
use Rattle.mz_meaning.specs.Runs.{State, Answer}
use Rattle.mz_eval_cells.specs.Meets.{MeetsAt}

-- the state of a run that notes nothing
abbrev pub at_work : ℕ → State
at_work n = record { work = n; taken = []; weight = 0 }

-- a result that is this answer, with this work; unless memory ran out
abbrev pub Meets : {A B : Type 0} → (A → B) → Result A Stop → ℕ → Answer B → Type 0
Meets see r n answer = MeetsAt see r (at_work n) answer
