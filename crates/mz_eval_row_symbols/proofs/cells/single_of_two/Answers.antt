use Rattle.std.proofs.Common.{◌∙◌, [], ◌∷◌, false, sym, ap}
use Rattle.mz_core.specs.Types.{plain_type}
use Rattle.mz_operations.specs.Bounds as bounds
use Rattle.mz_meaning.specs.Cells.{Var, typed, value_of}
use Rattle.mz_symbol.proofs.ConstantLaws.{out_value, out_state}
use Rattle.mz_symbol_rows.specs.RowValues.{argument}
use Rattle.mz_symbol_rows.proofs.RowLaws.{out_both}
use Rattle.mz_eval_cells.specs.Views.{known_bound, seen}
use Rattle.mz_eval_symbols.specs.Taken.{cell_value}
use Rattle.mz_eval_row_symbols.specs.NodeRows.{exact_row}
use Rattle.mz_eval_row_symbols.proofs.ToldLaws.{symbol_cell, two_values}
use Rattle.mz_eval_row_symbols.proofs.cells.single_of_two.Goals as goal

pub returns-clause-means : goal.returns-clause-means
returns-clause-means c names r h =
    let e = c.in_ok-s.ensures.means names r h in
    let t = plain_type c.args.t.now in
    let b = bounds.one (known_bound c.args.bound.now) in
    out_both (ap (λ v. typed r.mode false t (Var b v)) (sym (two_values r.mode (exact_row names c.args.row t) (value_of (seen r c.args.a.now.cell)) (value_of (seen r c.args.b.now.cell))))
    ∙ symbol_cell r names c.args.row t b (cell_value r c.args.a.now.cell ∷ cell_value r c.args.b.now.cell ∷ []) (argument r c.in_ok-s.s) (seen r c.in_ok-k.k) (c.in_ok-k.ensures r) (out_value e)) (out_state e)
