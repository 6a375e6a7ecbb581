use Rattle.std.proofs.Common.{sym}
use Rattle.mz_eval_elements.proofs.LineLaws.{row_told}
use Rattle.mz_eval_elements.proofs.listing.is_row.Goals as goal

pub returns : goal.returns
returns c q r h = row_told r c.args.index.now c.args.xs.now.cast c.args.xs.now.origins c.args.line (sym (c.are_origins.ensures q r h))
