use Rattle.std.proofs.Common.{◌∙◌}
use Rattle.mz_eval_branches.proofs.NoValues.{seen_unvalued}
use Rattle.mz_eval_branches.proofs.choosing.same_cell.Goals as goal

pub returns : goal.returns
returns c r = c.in_ok-same.ensures.seen r ∙ seen_unvalued r c.args.like.now c.requires
