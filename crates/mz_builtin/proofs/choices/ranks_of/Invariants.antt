use Rattle.std.proofs.Common.{◌≡◌, ◌∷◌, [], drop, map}
use Rattle.mz_core.specs.Types.{plain_type}
use Rattle.mz_builtin.specs.Readings.{ranks_from}
use Rattle.mz_builtin.proofs.choices.ranks_of.Given as goal

abbrev pub invariant-loop-t : goal.invariant-loop-t
invariant-loop-t l = ranks_from (1 ∷ []) (map plain_type l.args) ≡ ranks_from l.all.items (map plain_type (drop l.t-index l.args))
