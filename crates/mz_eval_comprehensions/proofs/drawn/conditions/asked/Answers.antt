use Rattle.std.proofs.Common.{◌∙◌}
use Rattle.mz_symbol.proofs.ConstantLaws.{out_value, out_state}
use Rattle.mz_symbol_rows.proofs.RowLaws.{out_both}
use Rattle.mz_eval_comprehensions.proofs.drawn.conditions.asked.Goals as goal

pub returns-clause-means : goal.returns-clause-means
returns-clause-means c r h =
    let e = c.in_ok-p.ensures.means r h in
    out_both (out_value e) (c.draw.ensures.same r ∙ out_state e)
