use Rattle.std.proofs.Common.{◌≡◌, map, take}
use Rattle.fz_program.specs.Arguments.{argument}
use Rattle.fz_build.proofs.copy.copied_all.Given as goal

abbrev pub invariant-loop-a : goal.invariant-loop-a
invariant-loop-a l = map argument l.all.items ≡ map argument (take l.a-index l.args)
