use Rattle.std.proofs.Common.{◌≡◌, [], drop, map}
use Rattle.mz_core.specs.Types.{plain_type}
use Rattle.mz_builtin.specs.Readings.{index_enums_from}
use Rattle.mz_builtin.proofs.choices.index_enums_of.Given as goal

abbrev pub invariant-loop-t : goal.invariant-loop-t
invariant-loop-t l = index_enums_from [] (map plain_type l.args) ≡ index_enums_from l.all.items (map plain_type (drop l.t-index l.args))
