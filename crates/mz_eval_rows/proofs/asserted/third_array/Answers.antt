use Rattle.std.proofs.Common.{◌∙◌, Option, map, ap}
use Rattle.mz_value.specs.Contents.{Content}
use Rattle.std.specs.Option.{option_map}
use Rattle.mz_operations.specs.Bounds as bounds
use Rattle.mz_meaning.specs.Cells.{Cell, Var, held, value_of}
use Rattle.mz_meaning.specs.Coerced.{recast}
use Rattle.mz_eval_cells.specs.Views.{known_bound, origins_value, seen}
use Rattle.mz_eval_rows.proofs.AssertedLaws.{array_handed}
use Rattle.mz_eval_rows.proofs.asserted.third_array.Goals as goal

pub returns : goal.returns
returns c r b =
    let xs = c.in-Row.xs.value in
    let ix = c.args.ix.now.value.items in
    let see : Option Content → Cell = λ v. Var (bounds.many ix (map known_bound c.args.all.now.value.items)) v in
    ap (λ k. see (held r.mode (option_map (recast b) (value_of (seen r k))))) c.in-Row.is
    ∙ ap see (array_handed r.mode b ix c.in-Row.jx.value.items xs.cast (origins_value r.line xs.origins) (c.same_index.ensures c.if-not-same_index.false))
    ∙ c.in_ok-x.ensures r
