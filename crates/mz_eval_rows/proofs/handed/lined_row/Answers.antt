use Rattle.std.proofs.Common.{◌≡◌, Ok, [], ◌∷◌, pos, false, length, map, sym, ap, subst}
use Rattle.std.proofs.lemmas.List.{length-map}
use Rattle.mz_operations.specs.RowBounds.{line_of}
use Rattle.mz_operations.specs.declared.row.MadeRow.TheVariants as made
use Rattle.mz_operations.specs.declared.row.Row.TheVariants.{Made}
use Rattle.mz_meaning.specs.Runs.{Out}
use Rattle.mz_meaning.specs.Cells.{Cell, Var, held, typed}
use Rattle.mz_meaning.specs.Operations.{row_cell}
use Rattle.mz_symbol.specs.Readings.{state_of}
use Rattle.mz_eval_cells.specs.Views.{known_bound, origins_value, row_content, seen}
use Rattle.mz_eval_row_symbols.specs.NodeRows.{stamped}
use Rattle.mz_eval_rows.specs.StepsCells.{HasCount}
use Rattle.mz_eval_rows.proofs.NodeLaws.{node_meets}
use Rattle.mz_eval_rows.proofs.HandedLaws.{line_row}
use Rattle.mz_eval_rows.proofs.handed.lined_row.Goals as goal

pub returns-clause-means : goal.returns-clause-means
returns-clause-means c names t place r h =
    let s = state_of r c.args.run.now in
    let xs = c.in-Row.xs.value in
    let bs = map known_bound xs.bounds.value.items in
    let o = origins_value r.line xs.origins in
    let cell : Cell = Var (line_of bs) (held r.mode (row_content r.line ((pos 1, pos (length bs)) ∷ []) xs)) in
    let count : HasCount o (length bs) = subst (HasCount o) (sym (length-map xs.bounds.value.items known_bound)) (c.is_whole.ensures c.if-not-is_whole.false r h) in
    node_meets r.mode names (Made made.Line) t place (seen r c.args.a.now ∷ []) cell s s (stamped t r) (Ok c.in_ok-k.k)
    (subst (λ k. row_cell r.mode names (Made made.Line) t place (seen r k ∷ []) s ≡ Out cell s) (sym c.in-Row.is) (line_row r.mode names t place c.in-Row._ix.value.items bs xs.cast o s count))
    (ap (λ x. Out (typed r.mode false t x) s) (sym (c.in_ok-k.ensures r)))
