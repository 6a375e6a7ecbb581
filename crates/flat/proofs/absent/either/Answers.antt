use Rattle.std.proofs.Common.{refl}
use Rattle.mz_partial.proofs.Asked.{asked_connective}
use Rattle.flat.proofs.absent.either.Goals as goal

pub make-requires-clause-asked : goal.make-requires-clause-asked
make-requires-clause-asked c = asked_connective c.args.arena.now _ refl c.requires.a c.requires.b
