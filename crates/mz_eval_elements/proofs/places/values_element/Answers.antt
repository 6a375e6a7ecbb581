use Rattle.std.proofs.Common.{ap, map, option_map, slice_get}
use Rattle.mz_value.specs.Contents.{content}
use Rattle.mz_meaning.specs.Runs.{Out}
use Rattle.mz_symbol.specs.Readings.{state_of}
use Rattle.mz_eval_symbols.specs.Steps.{item_cast}
use Rattle.mz_eval_elements.proofs.PlaceLaws.{kind_told}
use Rattle.mz_eval_elements.proofs.places.values_element.Goals as goal

pub returns-clause-means : goal.returns-clause-means
returns-clause-means c r h = ap (λ v. Out v (state_of r c.args.run.now)) (kind_told r c.args.base c.args.opt c.in_ok-k.k (option_map (item_cast c.args.cast) (slice_get (map content c.args.items.now) c.args.n)) (c.in_ok-k.ensures.seen r))
