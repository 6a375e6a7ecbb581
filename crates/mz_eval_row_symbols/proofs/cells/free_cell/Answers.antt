use Rattle.std.proofs.Common.{◌∙◌, None, ap}
use Rattle.mz_operations.specs.Bounds as bounds
use Rattle.mz_meaning.specs.Cells.{Var}
use Rattle.mz_eval_cells.specs.Views.{known_bound}
use Rattle.mz_eval_row_symbols.proofs.ToldLaws.{gone_cell}
use Rattle.mz_eval_row_symbols.proofs.cells.free_cell.Goals as goal

pub returns-then-gone : goal.returns-then-gone
returns-then-gone c r h = gone_cell r (bounds.one (known_bound c.args.bound.now)) c.args.s c.in_ok-none.none (c.in_ok-none.ensures.seen r ∙ ap (λ b. Var (bounds.one b) None) c.in_ok-same.ensures) (c.in_ok-gone.ensures c.if-gone.true r.term h)

pub returns : goal.returns
returns c r h = c.in_ok-k.ensures r
