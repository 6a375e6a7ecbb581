use Rattle.mz_arena_blocks.proofs.Placed.{lists_pushed, rows_pushed}
use Rattle.mz_arena_blocks.proofs.blocks.Blocks.push.Goals as goal

pub invariant_of-self-2 : goal.invariant_of-self-2
invariant_of-self-2 g c =
    rows_pushed g.T.Join.seen g.T.Join.fits g.T.Join.joined c.self.inside.rows.items c.push.new.self.items c.args.self.now (record { head = c.args.head; tail = c.args.tail; block = c.in_ok-block.block }) c.self.invariant c.self.view_is c.in_ok-push.ensures.items c.requires.tail c.requires.fits c.in_ok-block.ensures

pub returns-clause-pushed : goal.returns-clause-pushed
returns-clause-pushed g c =
    lists_pushed c.self.inside.rows.items c.push.new.self.items c.args.self.now (record { head = c.args.head; tail = c.args.tail; block = c.in_ok-block.block }) c.self.view_is c.in_ok-push.ensures.items
