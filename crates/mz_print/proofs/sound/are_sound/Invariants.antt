use Rattle.std.proofs.Common.{map, take}
use Rattle.std.specs.List.{AllByRecursion}
use Rattle.mz_value.specs.Contents.{content}
use Rattle.mz_print.specs.Printable.{IsSoundSet}
use Rattle.mz_print.proofs.sound.are_sound.Given as goal

abbrev pub invariant-loop-x : goal.invariant-loop-x
invariant-loop-x l = AllByRecursion IsSoundSet (map content (take l.x-index l.items))
