use Rattle.std.proofs.Common.{◌≡◌, ◌++◌, drop, map}
use Rattle.mz_core.specs.Types.{plain_type}
use Rattle.mz_builtin.specs.Views.{plain_choices, plain_numbered, maker_of}
use Rattle.mz_builtin.specs.Entries.{plain_entry}
use Rattle.std.specs.List.{flat_map}
use Rattle.mz_builtin.specs.Readings.{with_mark}
use Rattle.mz_builtin.proofs.candidates.add_with_meaning.Given as goal

abbrev pub invariant-loop-var : goal.invariant-loop-var
invariant-loop-var l = map plain_numbered l.fn.all.items ++ flat_map (with_mark (maker_of (plain_choices l.c) (map plain_type l.args) l.wanted) (plain_entry l.e) l.m) l.var-items ≡ map plain_numbered l.all.items ++ flat_map (with_mark (maker_of (plain_choices l.c) (map plain_type l.args) l.wanted) (plain_entry l.e) l.m) (drop l.var-index l.var-items)
