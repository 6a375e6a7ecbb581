use Rattle.std.proofs.Common.{◌∙◌, ◌+◌, ◌*◌, slice_get}
use Rattle.mz_symbol.proofs.ConstantLaws.{out_value, out_state}
use Rattle.mz_symbol_rows.proofs.GoingOn.{goes_both, goes_most}
use Rattle.mz_symbol_rows.proofs.RowLaws.{out_both}
use Rattle.mz_symbol_arrays.specs.LineValues.{count_of}
use Rattle.mz_eval_symbols.specs.Taken.{count_in}
use Rattle.mz_eval_rows.proofs.JoinedLaws.{joined_told, line_paid}
use Rattle.mz_eval_rows.proofs.joined.joined_line.Goals as goal

pub returns-clause-goes : goal.returns-clause-goes
returns-clause-goes c =
    let n = count_in c.args.a.now.cell in
    let m = count_in c.args.b.now.cell in
    let s = c.line_in-2.new.run in
    let x = count_of (slice_get s.lines c.in_ok-x.x) in
    let y = count_of (slice_get s.lines c.in-Ok.y) in
    goes_most (20 * n + 20 * m + (20 * x + 20 * y + 6)) (40 * n + 40 * m + 6) c.args.run.now c.join.new.run
    (line_paid n m x y c.in_ok-sized.ensures c.in_ok-sized-2.ensures)
    (goes_both (20 * n + 20 * m) (20 * x + 20 * y + 6) c.args.run.now s c.join.new.run
    (goes_both (20 * n) (20 * m) c.args.run.now c.line_in.new.run s c.in_ok-x.ensures.goes c.in-Ok.ensures.goes)
    c.in_ok-line.ensures.goes)

pub returns-clause-means : goal.returns-clause-means
returns-clause-means c names t r h =
    let last = c.in_ok-line.ensures.goes.back r h in
    let e = c.in_ok-line.ensures.means r h in
    let f = c.in-Ok.ensures.means r last in
    let g = c.in_ok-x.ensures.means r (c.in-Ok.ensures.goes.back r last) in
    out_both (joined_told r names t c.args.a.now.cell c.args.b.now.cell c.in_ok-x.x c.in-Ok.y c.in_ok-line.line c.requires.first c.requires.second (out_value g) (out_value f) (out_value e)) (out_state g ∙ out_state f ∙ out_state e)
