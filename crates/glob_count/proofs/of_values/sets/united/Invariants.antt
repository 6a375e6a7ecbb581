use Rattle.std.proofs.Common.{◌≡◌, drop, map, []}
use Rattle.mz_globals.specs.Counting.{united_from}
use Rattle.glob_count.proofs.of_values.sets.united.Given as goal

abbrev pub invariant-loop-s : goal.invariant-loop-s
invariant-loop-s l = united_from l.acc (map (λ s. s.now) (drop l.s-index l.ss)) ≡ united_from [] (map (λ s. s.now) l.ss)
