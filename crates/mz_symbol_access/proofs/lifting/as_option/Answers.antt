use Rattle.mz_symbol_access.proofs.StandingLaws.{replaces_truth}
use Rattle.mz_symbol_access.proofs.lifting.as_option.Goals as goal

pub returns-clause-replaces : goal.returns-clause-replaces
returns-clause-replaces c r h =
    replaces_truth r c.args.run.now c.whole_node.new.run c.truth_node.new.self c.args.p c.in-Ok.term c.in-Ok-truth_node.there c.requires (c.in-Ok.ensures.means r (c.in-Ok-truth_node.ensures.goes.back r h)) (c.in-Ok-truth_node.ensures.means r h)
