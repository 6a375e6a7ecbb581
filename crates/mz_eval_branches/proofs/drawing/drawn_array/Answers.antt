use Rattle.std.proofs.Common.{◌*◌, ◌∙◌, length}
use Rattle.mz_symbol.proofs.ConstantLaws.{out_value, out_state}
use Rattle.mz_symbol_rows.proofs.RowLaws.{out_both}
use Rattle.mz_eval_branches.proofs.ChoiceLaws.{goes_charged}
use Rattle.mz_eval_branches.proofs.drawing.drawn_array.Goals as goal

pub returns-in_err-k-clause-goes : goal.returns-in_err-k-clause-goes
returns-in_err-k-clause-goes c = goes_charged c.in_ok-charge.charge (58 * length c.args.all.now) c.args.run.now c.draw.new.self c.array_over.new.run c.in_ok-charge.ensures c.in_ok-draw.ensures.spares c.array_over.ensures.goes

pub returns-clause-goes : goal.returns-clause-goes
returns-clause-goes c = goes_charged c.in_ok-charge.charge (58 * length c.args.all.now) c.args.run.now c.draw.new.self c.array_over.new.run c.in_ok-charge.ensures c.in_ok-draw.ensures.spares c.array_over.ensures.goes

pub returns-clause-means : goal.returns-clause-means
returns-clause-means c r h =
    let e = c.in_ok-k.ensures.means r h in
    out_both (out_value e) (c.draw.ensures.same r ∙ out_state e)
