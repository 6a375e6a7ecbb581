use Rattle.std.proofs.Common.{◌∙◌}
use Rattle.mz_eval_cells.specs.Views.{known_bound}
use Rattle.mz_eval_comprehensions.proofs.ItemLaws.{none_told}
use Rattle.mz_eval_comprehensions.proofs.drawn.places.no_place.Goals as goal

pub returns : goal.returns
returns c n r = c.in_ok-k.ensures.seen r ∙ none_told (known_bound c.args.bound) r.mode c.args.cast n
