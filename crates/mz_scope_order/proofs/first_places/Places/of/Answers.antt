use Rattle.std.proofs.Common.{ap, arith}
use Rattle.mz_scope_order.specs.StepsTables.{or_next, place_from}
use Rattle.mz_scope_order.proofs.NameTables.{one_placed, all_placed}
use Rattle.mz_scope_order.proofs.first_places.Places.of.Goals as goal

pub loop-k-init : goal.loop-k-init
loop-k-init c = λ n. ap (λ z. or_next z (place_from 0 n c.args.names.now)) (c.new-places.ensures n)

pub loop-k-preserved : goal.loop-k-preserved
loop-k-preserved c = λ n. one_placed n c.args.names.now c.loop-k.k c.index-names-k.result _ _ _ _ (omega arith) c.index-names-k.is (c.loop-k.invariant n) (c.in_ok-add.ensures n)

pub returns : goal.returns
returns c = λ n. all_placed n c.args.names.now c.loop-k.k _ _ (omega arith) (c.loop-k.invariant n)
