use Rattle.std.proofs.Common.{◌≡◌, ◌++◌, drop}
use Rattle.std.specs.List.{flat_map}
use Rattle.mz_scope.specs.Spaces.{name_in}
use Rattle.mz_scope.specs.StepsSpaces.{asked_by}
use Rattle.mz_scope.proofs.spaces.names_asked.Given as goal

abbrev pub invariant-loop-o : goal.invariant-loop-o
invariant-loop-o l = flat_map (name_in (asked_by l.asked)) l.os ≡ l.names.items ++ flat_map (name_in (asked_by l.asked)) (drop l.o-index l.os)
