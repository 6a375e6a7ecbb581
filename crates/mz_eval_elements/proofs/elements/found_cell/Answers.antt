use Rattle.mz_eval_elements.proofs.PlaceLaws.{gone_told}
use Rattle.mz_eval_elements.proofs.elements.found_cell.Goals as goal

pub returns-then-gone-clause-seen : goal.returns-then-gone-clause-seen
returns-then-gone-clause-seen c r h = gone_told r c.args.s c.in_ok-none.none (c.in_ok-none.ensures.seen r) (c.in_ok-gone.ensures c.if-gone.true r.term h)

pub returns-clause-seen : goal.returns-clause-seen
returns-clause-seen c r h = c.in_ok-k.ensures.seen r
