use Rattle.std.proofs.Common.{◌∙◌, ◌&&◌, int_le, ap}
use Rattle.std.specs.List.{list_all}
use Rattle.glob_count.proofs.Alone.{holds_by_ends}
use Rattle.glob_count.proofs.of_values.sets.holds_only.Goals as goal

pub returns : goal.returns
returns c = c.lie_within.ensures ∙ ap (list_all (λ r. int_le c.args.within.0 r.0 && int_le r.1 c.args.within.1)) c.ranges-ranges.ensures.ranges ∙ holds_by_ends c.args.within c.args.s.now c.ranges-ranges.ensures.canonical c.ranges-ranges.ensures.limits
