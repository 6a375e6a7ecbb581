-- Runs that stop at one of some places.
use Rattle.std.specs.Prelude.{List}
use Rattle.std.specs.List.{Contains}
use Rattle.mz_base.specs.declared.fault.Span.{Span}
use Rattle.mz_meaning.specs.Runs.{Answer, Out, Stopped}

-- where a run stops, it is at one of these places
abbrev pub StopsAmong : {A : Type 0} → List Span → Answer A → Type 0
StopsAmong places (Out x s) = Unit {0}
StopsAmong places (Stopped f) = Contains places f.span
