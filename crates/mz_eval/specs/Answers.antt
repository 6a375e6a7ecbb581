-- At which faults the call may stop.
use Rattle.std.specs.Prelude.{◌≡◌, true, Result, Ok, Err}
use Rattle.mz_base.specs.declared.stop.Stop.{Stop}
use Rattle.mz_base.specs.declared.stop.Stop.TheVariants.{Refused, Memory}
use Rattle.mz_meaning.specs.Kinds.{is_evaluation_kind}

-- Bounds, Budget, Depth, AssertFailed, IndexMismatch and NegativeArgument; or out of memory
abbrev pub StopsAtFewKinds : {A : Type 0} → Result A Stop → Type 0
StopsAtFewKinds (Ok x) = Unit {0}
StopsAtFewKinds (Err (Refused f)) = is_evaluation_kind f.kind ≡ true
StopsAtFewKinds (Err Memory) = Unit {0}
