use Rattle.std.proofs.Common.{◌≡◌, ◌++◌, map}
use Rattle.mz_builtin.specs.Views.{type_lists_of, plain_numbered}
use Rattle.mz_builtin.specs.Entries.{plain_entry}
use Rattle.std.specs.Vec.Iter.{into_iter_items}
use Rattle.mz_builtin.specs.Readings.{numbered}
use Rattle.mz_builtin.proofs.candidates.add_numbered.Given as goal

abbrev pub invariant-loop-params : goal.invariant-loop-params
invariant-loop-params l = map plain_numbered l.fn.all.items ++ map (numbered (plain_entry l.e) l.m l.var) (type_lists_of l.fn.lists.items) ≡ map plain_numbered l.all.items ++ map (numbered (plain_entry l.e) l.m l.var) (type_lists_of (into_iter_items l.params-iterator))
