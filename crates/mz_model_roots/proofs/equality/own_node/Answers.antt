use Rattle.std.proofs.Common.{refl}
use Rattle.mz_symbol.proofs.ConstantLaws.{out_value, out_other}
use Rattle.mz_model_roots.proofs.EqualNodes.{node_tests}
use Rattle.mz_model_roots.proofs.equality.own_node.Goals as goal

pub returns-clause-stays : goal.returns-clause-stays
returns-clause-stays c r h = out_other (c.in_ok-symbol.ensures.means r h) refl

pub returns-clause-equal : goal.returns-clause-equal
returns-clause-equal c = node_tests c.equality.new.run c.args.x c.args.y c.in_ok-symbol.symbol c.in_ok-id.id (c.are_of_one_base.ensures c.if-not-are_of_one_base.false) c.in_ok-id.ensures (λ r h. out_value (c.in_ok-symbol.ensures.means r h))
