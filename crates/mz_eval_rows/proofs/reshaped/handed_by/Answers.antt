use Rattle.std.proofs.Common.{◌∙◌, map, sym, ap}
use Rattle.mz_operations.specs.Bounds as bounds
use Rattle.mz_meaning.specs.Cells.{Var, held}
use Rattle.mz_eval_cells.specs.Views.{array_of, cast_by, known_bound, row_content}
use Rattle.mz_eval_rows.proofs.reshaped.handed_by.Goals as goal

pub returns : goal.returns
returns c r =
    let ix = c.args.ix.value.items in
    ap (λ v. Var (bounds.many ix (map known_bound c.args.all.value.items)) (held r.mode (cast_by c.args.xs.now.cast (array_of ix v)))) (sym (c.in_ok-origins.ensures r.line))
    ∙ ap (λ y. Var (bounds.many ix (map known_bound y.bounds.value.items)) (held r.mode (row_content r.line ix y))) (sym c.in_ok-held.ensures.ok)
