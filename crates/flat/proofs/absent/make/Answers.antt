use Rattle.mz_partial.proofs.Making.{placed}
use Rattle.flat.proofs.absent.make.Goals as goal

pub returns-clause-placed : goal.returns-clause-placed
returns-clause-placed c = placed c.args.arena.now c.intern.new.self c.args.n c.in-Ok.x (c.intern.ensures.frees c.requires.bound) c.len-count.ensures.arena c.in-Ok.ensures.made c.intern.ensures.pushed
