use Rattle.std.proofs.Common.{◌∙◌, ap}
use Rattle.mz_eval_cells.specs.Views.{item_content, known_bound}
use Rattle.mz_eval_symbols.specs.Steps.{item_cast}
use Rattle.mz_eval_comprehensions.proofs.ItemLaws.{value_told}
use Rattle.mz_eval_comprehensions.proofs.drawn.places.value_place.Goals as goal

pub returns : goal.returns
returns c r =
    c.in_ok-k.ensures.seen r
    ∙ value_told (known_bound c.args.bound) r.mode c.args.cast c.args.items.now c.args.n c.in-Some.x.now (item_content c.in_ok-i.i) c.in-Some.ensures
    (c.in_ok-i.ensures ∙ c.cast_value-v.ensures ∙ ap (item_cast c.args.cast) c.in_ok-copy.ensures)
