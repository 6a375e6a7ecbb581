use Rattle.std.proofs.Common.{◌∙◌, sym, ap}
use Rattle.mz_meaning.specs.Cells.{value_of}
use Rattle.mz_eval_rows.proofs.ReshapedLaws.{array_there}
use Rattle.mz_eval_rows.proofs.asserted.third_of.Goals as goal

pub returns : goal.returns
returns c r = array_there r c.args.cells.now 2 c.in-Some.k.now c.in-Some.ensures ∙ ap value_of (sym (c.in_ok-same.ensures.seen r))
