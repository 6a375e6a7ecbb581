use Rattle.std.proofs.Common.{◌∙◌, ap}
use Rattle.mz_meaning.specs.Runs.{Out}
use Rattle.mz_model_roots.proofs.EqualNodes.{whole_tests}
use Rattle.mz_model_roots.proofs.equality.equal_node.Goals as goal

pub returns-clause-stays : goal.returns-clause-stays
returns-clause-stays c r h = ap (Out tt) (c.in_ok-whole.ensures.same r (c.in_ok-id.ensures.goes.back r h)) ∙ c.in_ok-id.ensures.stays r h

pub returns-clause-equal : goal.returns-clause-equal
returns-clause-equal c = whole_tests c.with_whole_value.new.run c.own_node.new.run c.args.x c.in_ok-whole.whole c.args.y c.in_ok-id.id (λ r h. c.in_ok-id.ensures.goes.back r h) c.in_ok-whole.ensures.whole c.in_ok-id.ensures.equal
