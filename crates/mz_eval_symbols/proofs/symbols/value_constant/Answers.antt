use Rattle.std.proofs.Common.{◌∙◌, ap}
use Rattle.mz_value.specs.Contents.{content}
use Rattle.mz_meaning.specs.Cells.{held}
use Rattle.mz_symbol.proofs.ConstantLaws.{out_value, out_state}
use Rattle.mz_symbol_rows.proofs.RowLaws.{out_both}
use Rattle.mz_eval_symbols.proofs.ConstantLaws.{item_told}
use Rattle.mz_eval_symbols.proofs.symbols.value_constant.Goals as goal

pub returns-clause-means : goal.returns-clause-means
returns-clause-means c r h =
    let e = c.in_ok-s.ensures.means r h in
    out_both (ap (held r.mode) (item_told c.args.cast c.args.i.now (content c.in_ok-v.v) (content c.cast_value-w.result) c.in_ok-v.ensures c.cast_value-w.ensures) ∙ out_value e) (out_state e)
