use Rattle.std.proofs.Common.{ap, refl, None}
use Rattle.mz_meaning.specs.Runs.{Out}
use Rattle.mz_symbol.specs.Readings.{state_of}
use Rattle.mz_eval_elements.proofs.PlaceLaws.{none_told}
use Rattle.mz_eval_elements.proofs.places.origins_item.Goals as goal

pub returns-in_ok-none-in-Nothing-clause-means : goal.returns-in_ok-none-in-Nothing-clause-means
returns-in_ok-none-in-Nothing-clause-means c r h = rw c.in-Nothing.is (ap (λ v. Out v (state_of r c.args.run.now)) (none_told r c.args.base c.args.opt c.in_ok-none-in-Nothing.none None refl (c.in_ok-none-in-Nothing.ensures.seen r)))
