use Rattle.mz_symbol.proofs.ConstantLaws.{out_value, out_state}
use Rattle.mz_symbol_rows.proofs.RowLaws.{out_both}
use Rattle.mz_eval_branches.proofs.TruthLaws.{none_told}
use Rattle.mz_eval_branches.proofs.truths.no_truth.Goals as goal

pub returns-clause-means : goal.returns-clause-means
returns-clause-means c r h =
    let e = c.in_ok-no.ensures.means r h in
    out_both (none_told r c.in_ok-no.no (out_value e)) (out_state e)
