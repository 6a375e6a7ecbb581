use Rattle.std.proofs.Common.{◌∙◌, ◌&&◌, [], ◌∷◌, ap, false}
use Rattle.mz_meaning.specs.Cells.{typed}
use Rattle.mz_eval_cells.specs.Views.{cell_of}
use Rattle.mz_eval_row_symbols.specs.NodeRows.{with_value}
use Rattle.mz_eval_rows.proofs.JoinedLaws.{untold_joined}
use Rattle.mz_eval_rows.proofs.joined.untold_cell.Goals as goal

pub returns : goal.returns
returns c names t r =
    ap (λ v. typed r.mode false t (with_value v (cell_of c.args.shape.now))) (untold_joined r names t c.args.a.now.cell c.args.b.now.cell c.requires)
    ∙ ap (typed r.mode false t) (c.in_ok-k.ensures r)
