use Rattle.std.proofs.Common.{◌≡◌, drop, map}
use Rattle.std.specs.List.{list_all}
use Rattle.mz_globals.specs.Counting.{are_apart}
use Rattle.glob_count.proofs.of_values.sets.is_apart.Given as goal

abbrev pub invariant-loop-t : goal.invariant-loop-t
invariant-loop-t l = list_all (are_apart l.s) (map (λ t. t.now) (drop l.t-index l.others)) ≡ list_all (are_apart l.s) (map (λ t. t.now) l.others)
