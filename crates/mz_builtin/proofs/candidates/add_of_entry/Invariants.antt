use Rattle.std.proofs.Common.{◌≡◌, ◌++◌, drop, map}
use Rattle.mz_core.specs.Types.{plain_type}
use Rattle.mz_builtin.specs.Views.{plain_choices, plain_numbered, maker_of}
use Rattle.mz_builtin.specs.Entries.{plain_entry}
use Rattle.std.specs.List.{flat_map}
use Rattle.mz_builtin.specs.Readings.{with_meaning}
use Rattle.mz_builtin.proofs.candidates.add_of_entry.Given as goal

abbrev pub invariant-loop-m : goal.invariant-loop-m
invariant-loop-m l = map plain_numbered l.fn.all.items ++ flat_map (with_meaning (maker_of (plain_choices l.c) (map plain_type l.args) l.wanted) (plain_entry l.e)) l.m-items ≡ map plain_numbered l.all.items ++ flat_map (with_meaning (maker_of (plain_choices l.c) (map plain_type l.args) l.wanted) (plain_entry l.e)) (drop l.m-index l.m-items)
