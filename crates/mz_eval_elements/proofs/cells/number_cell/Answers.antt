use Rattle.std.proofs.Common.{◌∙◌, ap}
use Rattle.mz_meaning.specs.Cells.{held}
use Rattle.mz_eval_elements.proofs.CellLaws.{argued_cast}
use Rattle.mz_eval_elements.proofs.cells.number_cell.Goals as goal

pub returns-clause-seen : goal.returns-clause-seen
returns-clause-seen c r = c.in_ok-k.ensures.seen r ∙ ap (held r.mode) (argued_cast r.term c.args.cast c.args.s)
