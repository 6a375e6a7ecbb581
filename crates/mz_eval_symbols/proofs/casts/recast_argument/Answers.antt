use Rattle.std.proofs.Common.{sym, ap}
use Rattle.mz_meaning.specs.Cells.{held}
use Rattle.mz_symbol_rows.proofs.RowLaws.{out_both}
use Rattle.mz_eval_symbols.proofs.casts.recast_argument.Goals as goal

pub returns-clause-means : goal.returns-clause-means
returns-clause-means c r h =
    let e = c.in-Ok.ensures.cast r h in
    out_both (ap (held r.mode) (sym e.argument)) e.same
