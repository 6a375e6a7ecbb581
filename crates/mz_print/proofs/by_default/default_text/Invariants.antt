use Rattle.std.proofs.Common.{◌≡◌, ◌++◌, map, drop}
use Rattle.std.specs.List.{flat_map}
use Rattle.mz_value.specs.Contents.{case_names, content}
use Rattle.mz_print.specs.Lines.{line_text}
use Rattle.mz_print.proofs.by_default.default_text.Given as goal

abbrev pub invariant-loop-line : goal.invariant-loop-line
invariant-loop-line l = flat_map (line_text l.names (case_names l.cases) (map content l.values)) l.lines ≡ l.out.items ++ flat_map (line_text l.names (case_names l.cases) (map content l.values)) (drop l.line-index l.lines)
