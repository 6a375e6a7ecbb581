-- The kinds of faults at which an evaluation that tests no context may stop.
use Rattle.std.specs.Prelude.{◌≡◌, Bool, true, false}
use Rattle.mz_base.specs.declared.kind.Kind.{Kind}
use Rattle.mz_base.specs.declared.kind.Kind.TheVariants as kind
use Rattle.mz_meaning.specs.Runs.{Run, State, Answer, Out, Stopped}

-- never at an undefined par value, at a free local in a wrong place, or at a form that isn't built
abbrev pub is_evaluation_kind : Kind → Bool
is_evaluation_kind kind.Bounds = true
is_evaluation_kind kind.Budget = true
is_evaluation_kind kind.Depth = true
is_evaluation_kind kind.AssertFailed = true
is_evaluation_kind kind.IndexMismatch = true
is_evaluation_kind kind.NegativeArgument = true
is_evaluation_kind _ = false

abbrev pub StopsAtEvaluation : {A : Type 0} → Answer A → Type 0
StopsAtEvaluation (Out x s) = Unit {0}
StopsAtEvaluation (Stopped f) = is_evaluation_kind f.kind ≡ true

-- a run that stops at faults of these kinds alone
pub record IsEvaluation {A : Type 0} (m : Run A) : Type 0 where
  pub by : (s : State) → StopsAtEvaluation (m s)
