use Rattle.std.proofs.Common.{◌≡◌, ◌++◌, drop}
use Rattle.mz_value.specs.Ranges.{IsInLimit}
use Rattle.mz_value.specs.StepsWalks as walks
use Rattle.mz_value.proofs.walks.joined_from.Given as goal

abbrev pub invariant-loop-next : goal.invariant-loop-next
invariant-loop-next l = record {
  least : IsInLimit l.last.0;
  greatest : IsInLimit l.last.1;
  walk : l.all.items ++ walks.joined_from l.last (drop l.next-index l.rest) ≡ walks.joined_from l.fn.first l.rest;
}
