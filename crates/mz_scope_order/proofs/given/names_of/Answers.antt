use Rattle.mz_scope_order.proofs.Picking.{one_mapped, all_mapped}
use Rattle.mz_scope_order.proofs.given.names_of.Goals as goal

pub loop-e-preserved : goal.loop-e-preserved
loop-e-preserved c = one_mapped (λ e. e.name) c.args.enums.now c.loop-e.e-index c.e-item.result c.loop-e.out.items c.push.new.self.items _ c.loop-e.invariant c.loop-e-test.true c.e-item.is c.in_ok-push.ensures.items

pub returns : goal.returns
returns c = all_mapped (λ e. e.name) c.args.enums.now c.loop-e.e-index c.loop-e.out.items _ c.loop-e.invariant c.loop-e-test.false
