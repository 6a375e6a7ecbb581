use Rattle.std.proofs.Common.{arith}
use Rattle.cases_instances.proofs.Standing.{all_kept, kept_next}
use Rattle.cases_instances.proofs.nodes.are_kept.Goals as goal

pub ids-preserved : goal.ids-preserved
ids-preserved c = kept_next c.args.arena.now c.args.ids.now c.ids.id c.ids.invariant (c.is_kept.ensures c.if-not-is_kept.false)

pub returns : goal.returns
returns c = λ t. all_kept c.args.arena.now c.args.ids.now c.ids.id (omega (arith, c.ids-test.false, c.len.ensures.count)) c.ids.invariant
