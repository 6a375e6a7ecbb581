use Rattle.std.proofs.Common.{◌≡◌, ◌+ℤ◌, pos, drop, map}
use Rattle.std.specs.List.{list_all}
use Rattle.mz_globals.specs.Lists.{numbered}
use Rattle.mz_globals.specs.Counting.{is_channel}
use Rattle.glob_count.proofs.of_values.sets.channels_to.Given as goal

abbrev pub invariant-loop-s : goal.invariant-loop-s
invariant-loop-s l = (l.j ≡ l.first +ℤ pos l.s-index) × (list_all (is_channel l.p) (numbered l.j (map (λ s. s.now) (drop l.s-index l.ss))) ≡ list_all (is_channel l.p) (numbered l.first (map (λ s. s.now) l.ss)))
