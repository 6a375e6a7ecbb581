use Rattle.std.proofs.Common.{◌∙◌, map, sym, ap}
use Rattle.mz_value.specs.Contents.{content}
use Rattle.mz_meaning.specs.Arrays.{elements_reached}
use Rattle.mz_eval_cells.proofs.Items.{array_bounds}
use Rattle.mz_eval_access.proofs.accessing.array_reached.Goals as goal

pub returns : goal.returns
returns c = c.in_ok-all.ensures ∙ sym (ap (λ b. elements_reached b c.args.ends.now) (array_bounds c.args.index.now (map content c.args.items.now)))
