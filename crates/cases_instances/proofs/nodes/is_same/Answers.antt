use Rattle.std.proofs.Common.{◌∙◌, sym}
use Rattle.cases_instances.proofs.Standing.{pointwise_same, range_same}
use Rattle.cases_instances.proofs.nodes.is_same.Goals as goal

pub returns : goal.returns
returns c = λ t. sym c.ranges-2.ensures.ranges ∙ pointwise_same _ range_same c.ranges-2.result.now c.ranges-3.result.now (sym c.eq.ensures ∙ t) ∙ c.ranges-3.ensures.ranges
