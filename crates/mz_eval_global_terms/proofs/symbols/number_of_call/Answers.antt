use Rattle.std.proofs.Common.{sym}
use Rattle.mz_symbol_rows.proofs.RowLaws.{out_both}
use Rattle.mz_eval_global_terms.proofs.symbols.number_of_call.Goals as goal

pub returns-clause-means : goal.returns-clause-means
returns-clause-means c r h =
    let is = c.in_ok-term.ensures.call in
    out_both (sym (is.value r h)) (is.same r h)
