use Rattle.std.proofs.Common.{◌≡◌, ◌++◌, map, drop}
use Rattle.std.specs.List.{flat_map}
use Rattle.mz_core.specs.Program.{function}
use Rattle.mz_check_meaning.specs.Texts.{in_function}
use Rattle.mz_check_data.proofs.program.in_functions.Given as goal

abbrev pub invariant-loop-f : goal.invariant-loop-f
invariant-loop-f l = l.fn.out.items ++ flat_map in_function (map function l.fs) ≡ l.out.items ++ flat_map in_function (map function (drop l.f-index l.fs))
