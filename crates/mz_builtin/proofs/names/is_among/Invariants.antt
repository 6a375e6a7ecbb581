use Rattle.std.proofs.Common.{◌≡◌, drop, map}
use Rattle.std.specs.List.{list_any}
use Rattle.mz_builtin.specs.Entries.{plain_line}
use Rattle.mz_builtin.specs.Signatures.{has_name}
use Rattle.mz_builtin.proofs.names.is_among.Given as goal

abbrev pub invariant-loop-line : goal.invariant-loop-line
invariant-loop-line l = list_any (has_name l.name) (map plain_line l.lines) ≡ list_any (has_name l.name) (map plain_line (drop l.line-index l.lines))
