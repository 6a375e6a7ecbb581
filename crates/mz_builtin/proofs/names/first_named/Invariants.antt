use Rattle.std.proofs.Common.{◌≡◌, drop, map}
use Rattle.mz_builtin.specs.Entries.{plain_line}
use Rattle.mz_builtin.specs.Table.{placed_from}
use Rattle.mz_builtin.specs.Signatures.{first_named}
use Rattle.mz_builtin.proofs.names.first_named.Given as goal

abbrev pub invariant-loop-line : goal.invariant-loop-line
invariant-loop-line l = record {
  first : first_named l.name (placed_from 0 (map plain_line l.lines)) ≡ first_named l.name (placed_from l.number (map plain_line (drop l.line-index l.lines)));
  place : l.number ≡ l.line-index;
}
