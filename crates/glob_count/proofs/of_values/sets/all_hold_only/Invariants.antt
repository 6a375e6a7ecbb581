use Rattle.std.proofs.Common.{◌≡◌, drop, map}
use Rattle.std.specs.List.{list_all}
use Rattle.mz_globals.specs.Counting.{holds_only}
use Rattle.glob_count.proofs.of_values.sets.all_hold_only.Given as goal

abbrev pub invariant-loop-s : goal.invariant-loop-s
invariant-loop-s l = list_all (holds_only l.within) (map (λ s. s.now) (drop l.s-index l.ss)) ≡ list_all (holds_only l.within) (map (λ s. s.now) l.ss)
