use Rattle.std.proofs.Common.{◌≡◌, ◌+◌, ◌++◌, drop, map}
use Rattle.std.specs.List.{flat_map}
use Rattle.mz_core.specs.Types.{plain_type}
use Rattle.mz_builtin.specs.Entries.{plain_line}
use Rattle.mz_builtin.specs.Table.{placed_from}
use Rattle.mz_builtin.specs.Signatures.{of_named}
use Rattle.mz_builtin.specs.Views.{plain_choices, plain_numbered, maker_of}
use Rattle.mz_builtin.proofs.candidates.add_from.Given as goal

abbrev pub invariant-loop-line : goal.invariant-loop-line
invariant-loop-line l = record {
  added : map plain_numbered l.fn.all.items ++ flat_map (of_named (maker_of (plain_choices l.c) (map plain_type l.args) l.wanted) l.c.enums.items l.name) (placed_from l.first (map plain_line l.lines)) ≡ map plain_numbered l.all.items ++ flat_map (of_named (maker_of (plain_choices l.c) (map plain_type l.args) l.wanted) l.c.enums.items l.name) (placed_from l.number (map plain_line (drop l.line-index l.lines)));
  place : l.number ≡ l.first + l.line-index;
}
