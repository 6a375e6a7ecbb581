use Rattle.std.proofs.Common.{refl}
use Rattle.mz_partial.proofs.Asked.{asked_negation}
use Rattle.flat.proofs.absent.negation.Goals as goal

pub make-requires-clause-asked : goal.make-requires-clause-asked
make-requires-clause-asked c = asked_negation c.args.arena.now _ refl c.requires
