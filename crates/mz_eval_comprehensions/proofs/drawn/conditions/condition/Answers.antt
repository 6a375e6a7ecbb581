use Rattle.std.proofs.Common.{ap}
use Rattle.mz_meaning.specs.Runs.{Out}
use Rattle.mz_symbol.specs.Readings.{state_of}
use Rattle.mz_eval_comprehensions.proofs.drawn.conditions.condition.Goals as goal

pub returns-in-Some-clause-means : goal.returns-in-Some-clause-means
returns-in-Some-clause-means c r h = ap (λ p. Out p (state_of r c.args.run.now)) (c.in-Some.ensures r)
