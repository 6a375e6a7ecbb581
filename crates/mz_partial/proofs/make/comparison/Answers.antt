use Rattle.mz_partial.proofs.Asked.{asked_comparison, compares_bound}
use Rattle.mz_partial.proofs.make.comparison.Goals as goal

pub make-requires-clause-asked : goal.make-requires-clause-asked
make-requires-clause-asked c = asked_comparison c.args.arena.now _ c.requires.kind c.requires.a c.requires.b

pub make-requires-clause-bound : goal.make-requires-clause-bound
make-requires-clause-bound c = compares_bound c.args.kind c.requires.kind
