use Rattle.std.proofs.Common.{ap, ◌∙◌}
use Rattle.mz_graph.proofs.Reading.{decl_added, decl_skipped, decls_read}
use Rattle.mz_graph.proofs.evaluation.decls_of.Goals as goal
use Rattle.mz_graph.proofs.evaluation.decls_of.Goals.{then-x-base+in_ok-push, else-x-base}

pub loop-x-preserved : goal.loop-x-preserved
loop-x-preserved c = elim c.if-x-base.branch [
  | then-x-base+in_ok-push w ↦ decl_added c.args.base c.loop-x.x-index c.args.order.now c.loop-x.decls.items c.if-x-base.decls.items _ c.loop-x.invariant c.loop-x-test.true w.if-x-base.true (ap (λ v. v.items) w.decls-is ∙ w.in_ok-push.ensures.items)
  | else-x-base w ↦ decl_skipped c.args.base c.loop-x.x-index c.args.order.now c.loop-x.decls.items c.if-x-base.decls.items _ c.loop-x.invariant c.loop-x-test.true w.if-x-base.false (ap (λ v. v.items) w.decls-is)
]

pub returns : goal.returns
returns c = decls_read c.args.base c.loop-x.x-index c.args.order.now c.loop-x.decls.items _ c.loop-x.invariant c.loop-x-test.false
