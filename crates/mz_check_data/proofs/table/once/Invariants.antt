use Rattle.std.proofs.Common.{◌≡◌, [], drop}
use Rattle.mz_check_meaning.specs.Texts.{once}
use Rattle.mz_check_data.proofs.table.once.Given as goal

abbrev pub invariant-loop-n : goal.invariant-loop-n
invariant-loop-n l = record {
  set : l.set ≡ l.all.items;
  built : once [] l.names ≡ once l.all.items (drop l.n-index l.names);
}
