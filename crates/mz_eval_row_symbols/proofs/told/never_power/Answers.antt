use Rattle.std.proofs.Common.{◌∙◌, [], ◌∷◌, sym, ap}
use Rattle.std.specs.Option.{option_map}
use Rattle.mz_core.specs.Types.{plain_type}
use Rattle.mz_operations.specs.declared.row.ScalarRow.TheVariants as scalar
use Rattle.mz_operations.specs.declared.row.Row.TheVariants.{Scalar}
use Rattle.mz_meaning.specs.Cells.{held}
use Rattle.mz_meaning.specs.Coerced.{recast}
use Rattle.mz_meaning.specs.Exact.{exact_value}
use Rattle.mz_symbol.proofs.ConstantLaws.{out_value, out_state}
use Rattle.mz_symbol_rows.proofs.RowLaws.{out_both}
use Rattle.mz_eval_symbols.specs.Taken.{cell_value}
use Rattle.mz_eval_row_symbols.specs.NodeRows.{told}
use Rattle.mz_eval_row_symbols.proofs.NeverLaws.{no_power}
use Rattle.mz_eval_row_symbols.proofs.told.never_power.Goals as goal

pub returns-clause-means : goal.returns-clause-means
returns-clause-means c names r h =
    let e = c.in_ok-told.ensures.means r h in
    let t = plain_type c.args.t.now in
    let x = cell_value r c.args.a.now.cell in
    let n = c.requires r in
    out_both
    (ap (λ v. held r.mode (told t (option_map (recast t.base) v))) (ap (λ v. exact_value names (Scalar scalar.Power) (x ∷ v ∷ [])) n ∙ no_power names x ∙ sym n)
    ∙ out_value e) (out_state e)
