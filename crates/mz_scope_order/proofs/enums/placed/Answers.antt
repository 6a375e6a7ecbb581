use Rattle.mz_scope_order.proofs.Picking.{one_mapped, all_mapped}
use Rattle.mz_scope_order.proofs.enums.placed.Goals as goal

pub loop-name-preserved : goal.loop-name-preserved
loop-name-preserved c = one_mapped (λ n. (n, c.args.at)) c.args.names.now c.loop-name.name-index c.name-item.result c.loop-name.out.items c.push.new.self.items _ c.loop-name.invariant c.loop-name-test.true c.name-item.is c.in_ok-push.ensures.items

pub returns : goal.returns
returns c = all_mapped (λ n. (n, c.args.at)) c.args.names.now c.loop-name.name-index c.loop-name.out.items _ c.loop-name.invariant c.loop-name-test.false
