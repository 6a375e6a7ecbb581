use Rattle.std.proofs.Common.{◌∙◌, sym}
use Rattle.mz_value.specs.Contents.{content}
use Rattle.mz_eval_arrays.proofs.ValueLists.{line_of_values}
use Rattle.mz_eval_arrays.proofs.lining.line_of_items.Goals as goal

pub returns : goal.returns
returns c = c.in_ok-k.ensures ∙ sym (line_of_values content c.args.items.items)
