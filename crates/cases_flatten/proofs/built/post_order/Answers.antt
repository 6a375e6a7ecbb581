use Rattle.std.proofs.Common.{ap, map, ◌∙◌}
use Rattle.fz_program.specs.Arguments.{argument}
use Rattle.cases_flatten.proofs.Allowed.{may_post}
use Rattle.cases_flatten.proofs.built.post_order.Goals as goal

pub post-requires : goal.post-requires
post-requires c = may_post c.args.build.now (map argument c.deref.result.now) c.requires (ap (map argument) c.deref.ensures.value ∙ c.in_ok-args.ensures)
