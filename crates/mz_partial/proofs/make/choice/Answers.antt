use Rattle.std.proofs.Common.{refl}
use Rattle.mz_partial.proofs.Asked.{asked_choice}
use Rattle.mz_partial.proofs.make.choice.Goals as goal

pub make-requires-clause-asked : goal.make-requires-clause-asked
make-requires-clause-asked c = asked_choice c.args.arena.now _ refl c.requires.c c.requires.alike
