use Rattle.std.proofs.Common.{◌∙◌, Option, sym, ap}
use Rattle.mz_value.specs.Contents.{Content}
use Rattle.std.specs.Option.{option_map}
use Rattle.mz_core.specs.Types.{plain_type}
use Rattle.mz_meaning.specs.Cells.{held}
use Rattle.mz_meaning.specs.Coerced.{recast}
use Rattle.mz_symbol.proofs.ConstantLaws.{out_value, out_state}
use Rattle.mz_symbol_rows.specs.RowValues.{argument}
use Rattle.mz_symbol_rows.proofs.RowLaws.{out_both}
use Rattle.mz_eval_row_symbols.specs.NodeRows.{told}
use Rattle.mz_eval_row_symbols.proofs.stated.symbol_at.Goals as goal

pub returns-clause-means : goal.returns-clause-means
returns-clause-means c r h =
    let e = c.in_ok-s.ensures.means r h in
    let t = plain_type c.args.t.now in
    let see : Option Content → Option Content = λ v. held r.mode (told t (option_map (recast t.base) v)) in
    out_both (ap see (out_value e)
    ∙ ap (λ s. see (argument r s)) (sym c.in_ok-x.ensures.same)
    ∙ sym (c.in_ok-x.ensures.at r)) (out_state e)
