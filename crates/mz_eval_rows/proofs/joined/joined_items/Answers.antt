use Rattle.std.proofs.Common.{◌∙◌, false, map, ap}
use Rattle.mz_operations.specs.Bounds as bounds
use Rattle.mz_meaning.specs.Cells.{Var, typed}
use Rattle.mz_symbol.proofs.ConstantLaws.{out_value, out_state}
use Rattle.mz_symbol_rows.proofs.RowLaws.{out_both}
use Rattle.mz_eval_cells.specs.Views.{known_bound}
use Rattle.mz_eval_rows.proofs.joined.joined_items.Goals as goal

pub returns-clause-means : goal.returns-clause-means
returns-clause-means c names t r h =
    let e = c.in-Ok.ensures.means names t r h in
    let all = bounds.many c.args.ix.now.value.items (map known_bound c.args.all.now.value.items) in
    out_both (ap (λ v. typed r.mode false t (Var all v)) (out_value e) ∙ ap (λ k. typed r.mode false t k) (c.in_ok-k.ensures r t h)) (out_state e)
