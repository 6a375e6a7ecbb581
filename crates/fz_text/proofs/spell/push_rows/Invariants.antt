use Rattle.std.proofs.Common.{◌≡◌, ◌++◌, take, map, flat_map}
use Rattle.fz_program.specs.Flat.{labels_of, row, variable}
use Rattle.fz_text.specs.Spelling.{row_line}
use Rattle.fz_text.proofs.spell.push_rows.Given as goal

abbrev pub invariant-loop-r : goal.invariant-loop-r
invariant-loop-r l =
    l.out.items ≡ l.initial.out.items ++ flat_map (λ r. row_line (labels_of (map variable l.vars)) (row r)) (take l.r-index l.rows)
