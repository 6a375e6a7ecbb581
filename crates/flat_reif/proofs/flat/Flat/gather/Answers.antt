use Rattle.flat_reif.specs.States.{state}
use Rattle.flat_reif.proofs.Gathering.{listed_place, first_split, below_cons, gather_begin, gather_next, gather_end, is_node}
use Rattle.flat_reif.proofs.flat.Flat.gather.Goals as goal

pub down-init : goal.down-init
down-init c = gather_begin (state c.args.self.now) c.args.list c.new-items.result.items c.new-items.ensures.items c.requires.listed

pub node-n-requires : goal.node-n-requires
node-n-requires c = listed_place (state c.args.self.now) c.down.here c.down.invariant.listed

pub argument-requires : goal.argument-requires
argument-requires c = (first_split (state c.args.self.now) c.down.here c.node-n.result c.down.invariant.listed (is_node c.args.self.now.arena c.down.here c.node-n.result c.node-n.ensures) c.in-Cons.is).here

pub down-smaller : goal.down-smaller
down-smaller c = below_cons (state c.args.self.now) c.requires.state c.down.here c.node-n.result (is_node c.args.self.now.arena c.down.here c.node-n.result c.node-n.ensures) c.in-Cons.is

pub down-preserved : goal.down-preserved
down-preserved c = gather_next (state c.args.self.now) c.args.list c.down.here c.node-n.result c.down.items.items c.push.new.self.items c.in-Ok.x c.down.invariant (is_node c.args.self.now.arena c.down.here c.node-n.result c.node-n.ensures) c.in-Cons.is c.in-Ok.ensures c.in_ok-push-in-Cons.ensures.items

pub returns-in_default : goal.returns-in_default
returns-in_default c = gather_end (state c.args.self.now) c.args.list c.down.here c.node-n.result c.down.items.items c.down.invariant (is_node c.args.self.now.arena c.down.here c.node-n.result c.node-n.ensures) c.in_default.not-Cons
