use Rattle.mz_eval_cells.specs.Views.{seen}
use Rattle.mz_eval_comprehensions.proofs.GatherLaws.{seen_push}
use Rattle.mz_eval_comprehensions.proofs.gathering.with_copy.Goals as goal

pub returns : goal.returns
returns c r = seen_push (seen r) _ c.args.made.items c.in_ok-k.k _ c.in_ok-push.ensures.items (c.in_ok-k.ensures.seen r)
