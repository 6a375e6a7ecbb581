use Rattle.std.proofs.Common.{◌≡◌, map, take}
use Rattle.fz_program.specs.Arguments.{plain}
use Rattle.fz_build.proofs.copy.copied_elements.Given as goal

abbrev pub invariant-loop-a : goal.invariant-loop-a
invariant-loop-a l = map plain l.all.items ≡ map plain (take l.a-index l.items)
