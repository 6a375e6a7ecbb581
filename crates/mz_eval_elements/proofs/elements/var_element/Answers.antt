use Rattle.std.proofs.Common.{◌∙◌, ap, map, sym}
use Rattle.mz_meaning.specs.Arrays.{accessed}
use Rattle.mz_meaning.specs.Cells.{value_of}
use Rattle.mz_meaning.specs.Runs.{Out}
use Rattle.mz_symbol.specs.Readings.{state_of}
use Rattle.mz_eval_cells.specs.Views.{all_seen, seen}
use Rattle.mz_eval_elements.proofs.ElementLaws.{untold_element}
use Rattle.mz_eval_elements.proofs.PlaceLaws.{none_told}
use Rattle.mz_eval_elements.proofs.elements.var_element.Goals as goal

pub returns-clause-means : goal.returns-clause-means
returns-clause-means c r h =
    ap (λ v. Out v (state_of r c.args.run.now))
    (none_told r c.args.base c.args.opt c.in_ok-none.none (accessed (value_of (seen r c.args.a.now)) (map value_of (all_seen r c.args.at.now))) (untold_element r c.args.a.now c.args.at.now (sym c.are_all_told.ensures ∙ c.if-are_all_told.false)) (c.in_ok-none.ensures.seen r))
