use Rattle.mz_scope_order.proofs.Picking.{one_mapped, all_mapped}
use Rattle.mz_scope_order.proofs.data_items.data_names.Goals as goal

pub loop-d-preserved : goal.loop-d-preserved
loop-d-preserved c = one_mapped (λ d. d.name) c.args.items.now c.loop-d.d-index c.d-item.result c.loop-d.out.items c.push.new.self.items _ c.loop-d.invariant c.loop-d-test.true c.d-item.is c.in_ok-push.ensures.items

pub returns : goal.returns
returns c = all_mapped (λ d. d.name) c.args.items.now c.loop-d.d-index c.loop-d.out.items _ c.loop-d.invariant c.loop-d-test.false
