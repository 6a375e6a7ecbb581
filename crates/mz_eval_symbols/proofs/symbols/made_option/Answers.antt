use Rattle.std.proofs.Common.{◌∙◌}
use Rattle.mz_symbol.proofs.ConstantLaws.{out_value, out_state}
use Rattle.mz_symbol_rows.proofs.RowLaws.{out_both}
use Rattle.mz_eval_symbols.proofs.ConstantLaws.{option_told}
use Rattle.mz_eval_symbols.proofs.symbols.made_option.Goals as goal

pub returns-clause-means : goal.returns-clause-means
returns-clause-means c r h =
    let e = c.in_ok-x.ensures.means r h in
    out_both (out_value e ∙ option_told r c.in_ok-x.x c.in_ok-o.o c.in_ok-o.ensures) (out_state e)
