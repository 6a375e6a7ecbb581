use Rattle.std.proofs.Common.{map, ap, ◌∙◌}
use Rattle.mz_arena.specs.Instances.{model_var}
use Rattle.cases_instances.specs.Seen.{part}
use Rattle.cases_instances.proofs.Gathered.{instance_given}
use Rattle.cases_instances.proofs.instance.is_instance.Goals as goal

pub returns : goal.returns
returns c = λ t. instance_given c.args.inst.now (map model_var c.as_slice-vars.result.now) (map part c.as_slice-list.result.now) c.as_slice-nodes.result.now c.as_slice.result.now (ap (map model_var) c.as_slice-vars.ensures.value) c.as_slice.ensures.value (ap (map part) c.as_slice-list.ensures.value ∙ c.in-Ok.ensures) (c.as_slice-nodes.ensures.value ∙ c.in-Ok-ids.ensures) c.len-count.ensures.arena (c.are_model_vars.ensures c.if-not-are_model_vars.false) (c.are_parts.ensures c.if-not-are_parts.false) (c.are_nodes.ensures c.if-not-are_nodes.false) (c.are_kept.ensures c.if-not-are_kept.false) (c.are_truths.ensures c.if-not-are_truths.false) (c.is_objective.ensures t)
