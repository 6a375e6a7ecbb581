use Rattle.mz_symbol_arrays.proofs.ClauseLaws.{joins}
use Rattle.mz_symbol_arrays.proofs.clauses.either.Goals as goal

pub returns-clause-joins : goal.returns-clause-joins
returns-clause-joins c r h =
    let last = c.in-Ok.ensures.goes.back r h in
    let back = c.in_ok-all.ensures.goes.back r last in
    joins r c.args.run.now _ _ c.logic.new.run c.args.some c.args.others c.in_ok-any.any c.in_ok-all.all c.in-Ok.either (c.in_ok-any.ensures.asks r back) (c.in_ok-all.ensures.asks r last) (c.in-Ok.ensures.means r h)
