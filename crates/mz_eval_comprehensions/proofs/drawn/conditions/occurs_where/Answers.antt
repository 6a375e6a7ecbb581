use Rattle.std.proofs.Common.{◌∙◌, ap}
use Rattle.mz_meaning.specs.Comprehensions.{both_occur}
use Rattle.mz_symbol.proofs.ConstantLaws.{out_value, out_state}
use Rattle.mz_symbol_rows.proofs.RowLaws.{out_both}
use Rattle.mz_eval_comprehensions.specs.Presences.{presence_seen}
use Rattle.mz_eval_comprehensions.proofs.drawn.conditions.occurs_where.Goals as goal

pub returns-clause-means : goal.returns-clause-means
returns-clause-means c r h =
    let e = c.in_ok-x.ensures.means r h in
    let a = c.in_ok-q.ensures.means r (c.in_ok-x.ensures.goes.back r h) in
    out_both (ap (both_occur (presence_seen r c.args.p)) (out_value a) ∙ out_value e) (out_state a ∙ out_state e)
