use Rattle.std.proofs.Common.{sym, ◌∙◌}
use Rattle.flat_reif.specs.States.{state}
use Rattle.flat_reif.proofs.Gathering.{is_node}
use Rattle.flat_reif.proofs.Below.{inner_here, ready_here, settled_had, settled_left, settled_inner, settled_choice, if_settled}
use Rattle.flat_reif.proofs.flat.Flat.settle.Goals as goal

pub returns-then-has : goal.returns-then-has
returns-then-has c = settled_had (state c.args.self.now) c.args.id c.args.needed c.requires.state (c.has.ensures.yes c.if-has.true)

pub flatten_choice-requires-clause-node : goal.flatten_choice-requires-clause-node
flatten_choice-requires-clause-node c = is_node c.args.self.now.arena c.args.id c.node-n.result c.node-n.ensures

pub returns-then-is_local : goal.returns-then-is_local
returns-then-is_local c = if_settled c.flatten_choice.result _ _ (settled_choice (state c.args.self.now) (state c.flatten_choice.new.self) c.args.id c.args.needed) c.flatten_choice.ensures

pub flatten_inner-requires-clause-ready : goal.flatten_inner-requires-clause-ready
flatten_inner-requires-clause-ready c = ready_here (state c.args.self.now) c.args.id c.node-n.result c.requires.state c.requires.front (is_node c.args.self.now.arena c.args.id c.node-n.result c.node-n.ensures) (c.has.ensures.no c.if-has.false) (sym c.is_local.ensures ∙ c.if-is_local.false) (c.requires.due c.if-needed.true)

pub flatten_inner-requires-clause-inner : goal.flatten_inner-requires-clause-inner
flatten_inner-requires-clause-inner c = inner_here (state c.args.self.now) c.args.id c.node-n.result c.requires.state c.requires.front (is_node c.args.self.now.arena c.args.id c.node-n.result c.node-n.ensures) (c.has.ensures.no c.if-has.false) (sym c.is_local.ensures ∙ c.if-is_local.false)

pub returns-then-needed : goal.returns-then-needed
returns-then-needed c = if_settled c.flatten_inner.result _ _ (settled_inner (state c.args.self.now) (state c.flatten_inner.new.self) c.args.id c.node-n.result c.args.needed (is_node c.args.self.now.arena c.args.id c.node-n.result c.node-n.ensures) (sym c.is_local.ensures ∙ c.if-is_local.false)) c.flatten_inner.ensures

pub returns-else-needed : goal.returns-else-needed
returns-else-needed c = settled_left (state c.args.self.now) c.args.id c.node-n.result c.args.needed c.requires.state (is_node c.args.self.now.arena c.args.id c.node-n.result c.node-n.ensures) (sym c.is_local.ensures ∙ c.if-is_local.false) c.if-needed.false
