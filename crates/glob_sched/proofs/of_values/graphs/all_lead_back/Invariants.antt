use Rattle.std.proofs.Common.{◌≡◌, ◌+ℤ◌, pos, drop}
use Rattle.std.specs.List.{list_all}
use Rattle.mz_globals.specs.Lists.{numbered}
use Rattle.mz_globals.specs.Graphs.{is_two_way}
use Rattle.glob_sched.proofs.of_values.graphs.all_lead_back.Given as goal

abbrev pub invariant-loop-x : goal.invariant-loop-x
invariant-loop-x l = (l.i ≡ l.first +ℤ pos l.x-index) × (list_all (λ p. list_all (is_two_way p) (numbered l.g.indices.0 l.g.items.items)) (numbered l.i (drop l.x-index l.xs)) ≡ list_all (λ p. list_all (is_two_way p) (numbered l.g.indices.0 l.g.items.items)) (numbered l.first l.xs))
