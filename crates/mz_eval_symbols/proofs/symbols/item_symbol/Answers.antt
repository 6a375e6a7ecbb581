use Rattle.std.proofs.Common.{◌∙◌}
use Rattle.mz_symbol.proofs.ConstantLaws.{out_value, out_state}
use Rattle.mz_symbol_rows.proofs.RowLaws.{out_both}
use Rattle.mz_eval_cells.specs.Views.{item_content}
use Rattle.mz_eval_symbols.proofs.ConstantLaws.{cast_argued}
use Rattle.mz_eval_symbols.proofs.symbols.item_symbol.Goals as goal

pub returns-clause-means : goal.returns-clause-means
returns-clause-means c r h =
    let e = c.in_ok-x.ensures.means r h in
    let f = c.in_ok-s.ensures.means r (c.in_ok-x.ensures.goes.back r h) in
    out_both (cast_argued r c.in_ok-s.s c.args.cast (item_content c.args.i.now) (out_value f) ∙ out_value e) (out_state f ∙ out_state e)
