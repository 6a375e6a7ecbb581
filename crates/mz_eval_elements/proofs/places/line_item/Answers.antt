use Rattle.std.proofs.Common.{◌∙◌, ap, option_map}
use Rattle.mz_meaning.specs.Cells.{held}
use Rattle.mz_meaning.specs.Runs.{Out}
use Rattle.mz_symbol.specs.Readings.{state_of}
use Rattle.mz_eval_symbols.specs.Steps.{item_cast}
use Rattle.mz_eval_elements.specs.StepsElements.{in_place}
use Rattle.mz_eval_elements.proofs.PlaceLaws.{kind_told}
use Rattle.mz_eval_elements.proofs.places.line_item.Goals as goal

pub returns-in_ok-k-in-Some-clause-means : goal.returns-in_ok-k-in-Some-clause-means
returns-in_ok-k-in-Some-clause-means c r h =
    ap (λ v. Out v (state_of r c.args.run.now)) (kind_told r c.args.base c.args.opt c.in_ok-k-in-Some.k (option_map (item_cast c.args.cast) (in_place c.args.n (r.line c.args.line))) (c.in_ok-k-in-Some.ensures.seen r ∙ ap (λ v. held r.mode (option_map (item_cast c.args.cast) v)) (c.in-Some.ensures r h)))
