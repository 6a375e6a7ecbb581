use Rattle.mz_eval_elements.proofs.LineLaws.{own_told}
use Rattle.mz_eval_elements.proofs.listing.line_of_row.Goals as goal

pub returns : goal.returns
returns c r = own_told r c.args.index.now c.args.xs.now.cast c.args.xs.now.origins c.in-Some.n (c.is_cast.ensures c.if-is_cast.false) c.in-Some.ensures
