use Rattle.mz_partial.proofs.Making.{placed}
use Rattle.mz_partial.proofs.make.make.Goals as goal

pub returns-clause-placed : goal.returns-clause-placed
returns-clause-placed c = placed c.args.arena.now c.intern.new.self c.args.n c.in_ok-id.id (c.intern.ensures.frees c.requires.bound) c.len-count.ensures.arena c.in_ok-id.ensures.made c.intern.ensures.pushed
