use Rattle.std.proofs.Common.{◌≡◌, drop, map}
use Rattle.mz_core.specs.Types.{plain_type, plain_signature}
use Rattle.mz_overload.specs.StepsResolution.{first_accepting}
use Rattle.mz_overload.proofs.resolution.first_accepting.Given as goal

abbrev pub invariant-loop-i : goal.invariant-loop-i
invariant-loop-i l = first_accepting (map plain_signature l.cands) (map plain_type l.args) 0 (map plain_signature l.cands) ≡ first_accepting (map plain_signature l.cands) (map plain_type l.args) l.i (map plain_signature (drop l.i l.cands))
