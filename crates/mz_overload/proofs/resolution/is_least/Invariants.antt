use Rattle.std.proofs.Common.{◌≡◌, drop, map}
use Rattle.mz_core.specs.Types.{plain_type, plain_signature}
use Rattle.mz_overload.specs.Best.{is_least}
use Rattle.mz_overload.proofs.resolution.is_least.Given as goal

abbrev pub invariant-loop-d : goal.invariant-loop-d
invariant-loop-d l = is_least (map plain_signature l.cands) (map plain_type l.args) (plain_signature l.c) ≡ is_least (map plain_signature (drop l.d-index l.cands)) (map plain_type l.args) (plain_signature l.c)
