use Rattle.mz_scope_order.specs.Dependencies.{meant_by}
use Rattle.mz_scope_order.specs.StepsPlaces.{callee, or_zero}
use Rattle.mz_scope_order.proofs.Making.{one_made, all_made}
use Rattle.mz_scope_order.proofs.tables.Tables.numbers.Goals as goal

pub loop-f-preserved : goal.loop-f-preserved
loop-f-preserved c = one_made (λ s. or_zero (callee c.args.self.now.bare c.args.self.now.applied (meant_by s))) _ c.loop-f.numbers.items _ c.number.result c.args.functions.now c.loop-f.f-index c.f-item.result c.loop-f.invariant c.loop-f-test.true c.f-item.is c.number.ensures c.in_ok-push.ensures.items

pub returns : goal.returns
returns c = all_made (λ s. or_zero (callee c.args.self.now.bare c.args.self.now.applied (meant_by s))) _ c.loop-f.numbers.items c.args.functions.now c.loop-f.f-index c.loop-f.invariant c.loop-f-test.false
