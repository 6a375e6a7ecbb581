use Rattle.std.proofs.Common.{◌∙◌, length}
use Rattle.mz_symbol.proofs.ConstantLaws.{out_value, out_state}
use Rattle.mz_symbol_rows.proofs.RowLaws.{out_both}
use Rattle.mz_eval_symbols.specs.Taken.{count_in}
use Rattle.mz_eval_branches.specs.BranchLines.{fold_charge}
use Rattle.mz_eval_branches.proofs.ChoiceLaws.{charge_told, goes_charged}
use Rattle.mz_eval_branches.proofs.choosing.drawn_line.Goals as goal

pub returns-in_err-line-clause-goes : goal.returns-in_err-line-clause-goes
returns-in_err-line-clause-goes c =
    let n = length c.args.branches.now in
    goes_charged c.in_ok-charge.charge (fold_charge (count_in c.args.like.now) n) c.args.run.now c.draw.new.self c.chosen_line.new.run (charge_told c.in_ok-charge.charge c.count_in-count.result (count_in c.args.like.now) n c.in_ok-charge.ensures c.count_in-count.ensures) c.in_ok-draw.ensures.spares c.chosen_line.ensures.goes

pub returns-clause-goes : goal.returns-clause-goes
returns-clause-goes c =
    let n = length c.args.branches.now in
    goes_charged c.in_ok-charge.charge (fold_charge (count_in c.args.like.now) n) c.args.run.now c.draw.new.self c.chosen_line.new.run (charge_told c.in_ok-charge.charge c.count_in-count.result (count_in c.args.like.now) n c.in_ok-charge.ensures c.count_in-count.ensures) c.in_ok-draw.ensures.spares c.chosen_line.ensures.goes

pub returns-clause-means : goal.returns-clause-means
returns-clause-means c r h =
    let e = c.in_ok-line.ensures.means r h in
    out_both (out_value e) (c.draw.ensures.same r ∙ out_state e)
