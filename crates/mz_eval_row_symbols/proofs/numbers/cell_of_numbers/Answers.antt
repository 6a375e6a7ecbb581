use Rattle.std.proofs.Common.{◌∙◌, [], ◌∷◌, false, sym, ap}
use Rattle.mz_value.specs.Contents.{case_names}
use Rattle.mz_core.specs.Types.{plain_type}
use Rattle.mz_operations.specs.Bounds.{one}
use Rattle.mz_operations.specs.declared.row.Row.TheVariants.{Scalar}
use Rattle.mz_meaning.specs.Runs.{give}
use Rattle.mz_meaning.specs.Cells.{Var, held, typed, value_of}
use Rattle.mz_symbol.specs.Readings.{state_of}
use Rattle.mz_symbol.proofs.ConstantLaws.{out_value, out_state}
use Rattle.mz_symbol_rows.specs.RowValues.{argument}
use Rattle.mz_symbol_rows.proofs.RowLaws.{out_both}
use Rattle.mz_eval_cells.specs.Views.{known_bound, seen}
use Rattle.mz_eval_row_symbols.specs.NodeRows.{exact_row, row_told, var_value}
use Rattle.mz_eval_row_symbols.specs.Numbers.{operand_value}
use Rattle.mz_eval_row_symbols.proofs.EndLaws.{ends_told}
use Rattle.mz_eval_row_symbols.proofs.ToldLaws.{symbol_cell, two_values}
use Rattle.mz_eval_row_symbols.proofs.numbers.cell_of_numbers.Goals as goal

pub returns-clause-means : goal.returns-clause-means
returns-clause-means c x y k r h =
    let n = c.args.n.now in
    let names = case_names c.args.cases.now in
    let s = state_of r c.args.run.now in
    let t = plain_type c.args.t.now in
    let cs = x r ∷ y r ∷ [] in
    let b = one (known_bound c.number_bound-bound.result) in
    let first = held r.mode (value_of (x r)) in
    let second = held r.mode (value_of (y r)) in
    let e = ap (λ v. give (row_told r names (Scalar n.row) t (v ∷ second ∷ [])) s) (k.left r)
    ∙ ap (λ v. give (row_told r names (Scalar n.row) t (operand_value r n.left ∷ v ∷ [])) s) (k.right r)
    ∙ c.in_ok-s.ensures.means names r h in
    ap (λ f. f s) (ends_told r.mode names (Scalar n.row) t c.args.at cs n.ends (k.ends r))
    ∙ ap (λ z. give (typed r.mode false t (Var (one z) (var_value r.mode names (Scalar n.row) t cs))) s) (sym c.number_bound-bound.ensures)
    ∙ out_both (ap (λ v. typed r.mode false t (Var b v)) (sym (two_values r.mode (exact_row names (Scalar n.row) t) (value_of (x r)) (value_of (y r))))
    ∙ symbol_cell r names (Scalar n.row) t b (first ∷ second ∷ []) (argument r c.in_ok-s.s) (seen r c.in_ok-k.k) (c.in_ok-k.ensures r) (out_value e)) (out_state e)
