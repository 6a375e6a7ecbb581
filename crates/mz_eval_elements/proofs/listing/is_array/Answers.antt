use Rattle.std.proofs.Common.{Some, map}
use Rattle.mz_value.specs.Contents.{content}
use Rattle.mz_eval_elements.proofs.LineLaws.{array_told}
use Rattle.mz_eval_elements.proofs.listing.is_array.Goals as goal

pub returns : goal.returns
returns c q r h = array_told r c.args.index.now c.args.line (Some (map content c.args.items.now)) (c.has_values.ensures q r h)
