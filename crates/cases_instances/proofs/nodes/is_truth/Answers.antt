use Rattle.std.proofs.Common.{◌∙◌, ap, Some}
use Rattle.mz_arena.specs.Extents.{extent}
use Rattle.cases_instances.proofs.Standing.{truth_known}
use Rattle.cases_instances.proofs.nodes.is_truth.Goals as goal

pub returns-in-Boolean : goal.returns-in-Boolean
returns-in-Boolean c = λ t. truth_known (extent c.args.arena.now c.args.id) (c.sort.ensures ∙ ap (λ s. Some s) c.in-Boolean.is)
