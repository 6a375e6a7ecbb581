use Rattle.std.proofs.Common.{◌≡◌, ◌+◌, drop, map}
use Rattle.mz_core.specs.Types.{plain_type, plain_signature}
use Rattle.mz_overload.specs.StepsResolution.{resolution_from}
use Rattle.mz_overload.proofs.resolution.resolution_from.Given as goal

abbrev pub invariant-loop-i : goal.invariant-loop-i
invariant-loop-i l = resolution_from (map plain_signature l.cands) (map plain_type l.args) l.first (plain_signature l.fn.c) (l.first + 1) (map plain_signature (drop (l.first + 1) l.cands)) ≡ resolution_from (map plain_signature l.cands) (map plain_type l.args) l.at (plain_signature l.least) l.i (map plain_signature (drop l.i l.cands))
