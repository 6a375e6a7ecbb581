use Rattle.fz_program.specs.Arguments.{plain}
use Rattle.flat_reif.specs.States.{state}
use Rattle.flat_reif.proofs.Gathering.{is_node}
use Rattle.flat_reif.proofs.Given.{on_ok}
use Rattle.flat_reif.proofs.Posting.{test_place, test_here, test_operands, test_posted}
use Rattle.flat_reif.proofs.flat.Flat.post_test.Goals as goal

pub node-n-requires : goal.node-n-requires
node-n-requires c = test_place (state c.args.self.now) c.args.id c.args.name c.requires.test

pub argument-requires : goal.argument-requires
argument-requires c = (test_here (state c.args.self.now) c.args.id c.args.name c.node-n.result c.requires.test (is_node c.args.self.now.arena c.args.id c.node-n.result c.node-n.ensures)).first

pub argument-requires-2 : goal.argument-requires-2
argument-requires-2 c = (test_here (state c.args.self.now) c.args.id c.args.name c.node-n.result c.requires.test (is_node c.args.self.now.arena c.args.id c.node-n.result c.node-n.ensures)).second

pub post_test-requires-clause-row : goal.post_test-requires-clause-row
post_test-requires-clause-row c = (test_here (state c.args.self.now) c.args.id c.args.name c.node-n.result c.requires.test (is_node c.args.self.now.arena c.args.id c.node-n.result c.node-n.ensures)).row

pub post_test-requires-clause-operands : goal.post_test-requires-clause-operands
post_test-requires-clause-operands c = test_operands (state c.args.self.now) c.args.id c.node-n.result c.requires.state (is_node c.args.self.now.arena c.args.id c.node-n.result c.node-n.ensures) c.args.name (post_test-requires-clause-row c) (plain c.in-Ok.x) (plain c.in-Ok-argument.x) c.in-Ok.ensures c.in-Ok-argument.ensures

pub returns : goal.returns
returns c =
    let h = is_node c.args.self.now.arena c.args.id c.node-n.result c.node-n.ensures in
    on_ok c.post_test.result _ _ (test_posted (state c.args.self.now) c.args.id c.node-n.result c.requires.state h c.args.name (test_here (state c.args.self.now) c.args.id c.args.name c.node-n.result c.requires.test h).row (plain c.in-Ok.x) (plain c.in-Ok-argument.x) c.in-Ok.ensures c.in-Ok-argument.ensures c.post_test.new.build) c.post_test.ensures.tests
