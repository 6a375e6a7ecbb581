use Rattle.std.proofs.Common.{◌∙◌, Some, map, ap}
use Rattle.mz_value.specs.Contents.{content, contents}
use Rattle.mz_value.specs.Contents as values
use Rattle.mz_eval_cells.specs.Views.{array_of}
use Rattle.mz_eval_rows.proofs.settled.array_origins.Goals as goal

pub returns : goal.returns
returns c l =
    ap (array_of c.args.ix.now.value.items) (c.in_ok-o.ensures l)
    ∙ ap (λ i. Some (values.array i (contents (map content c.args.items.now.value.items)))) (c.same_index.ensures c.if-not-same_index.false)
