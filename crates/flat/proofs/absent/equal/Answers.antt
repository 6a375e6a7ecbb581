use Rattle.std.proofs.Common.{refl}
use Rattle.mz_partial.proofs.Asked.{asked_comparison}
use Rattle.flat.proofs.absent.equal.Goals as goal

pub make-requires-clause-asked : goal.make-requires-clause-asked
make-requires-clause-asked c = asked_comparison c.args.arena.now _ refl c.requires.a c.requires.b
