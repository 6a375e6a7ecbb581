use Rattle.std.proofs.Common.{◌∙◌}
use Rattle.mz_eval_rows.proofs.joined.is_from_one.Goals as goal

pub returns : goal.returns
returns c h = c.has_ranges.ensures h ∙ c.deref.ensures.value ∙ c.in_ok-ranges.ensures
