use Rattle.std.proofs.Common.{◌++◌, ap, arith, ◌∙◌}
use Rattle.flat_root.proofs.Turning.{before_next, nothing_met}
use Rattle.flat_root.proofs.parts.root_parts.Goals as goal

pub split-requires-clause-marks : goal.split-requires-clause-marks
split-requires-clause-marks c = before_next c.new-marks.result.items 0 1 (nothing_met c.new-marks.result.items c.new-marks.ensures.items) (omega arith)

pub returns : goal.returns
returns c = record { first = c.in-Ok.x.items; more = c.in-Ok-split_each.x.items; values = c.in-Ok.ensures.split; roots = c.in-Ok-split_each.ensures; items = c.in-Ok-add_all.ensures ∙ ap (λ is. c.in-Ok.x.items ++ is) c.as_slice.ensures.value }
