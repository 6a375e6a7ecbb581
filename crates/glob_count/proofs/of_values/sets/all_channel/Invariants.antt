use Rattle.std.proofs.Common.{◌≡◌, ◌+ℤ◌, pos, drop, map}
use Rattle.std.specs.List.{list_all}
use Rattle.mz_globals.specs.Lists.{numbered}
use Rattle.mz_globals.specs.Counting.{is_channel}
use Rattle.glob_order.specs.Views.{sets_of}
use Rattle.glob_count.proofs.of_values.sets.all_channel.Given as goal

abbrev pub invariant-loop-x : goal.invariant-loop-x
invariant-loop-x l = (l.i ≡ l.first +ℤ pos l.x-index) × (list_all (λ p. list_all (is_channel p) (numbered l.sets.indices.0 (sets_of l.sets).items)) (numbered l.i (drop l.x-index l.xs)) ≡ list_all (λ p. list_all (is_channel p) (numbered l.sets.indices.0 (sets_of l.sets).items)) (numbered l.first l.xs))
