use Rattle.std.proofs.Common.{◌*◌, [], ◌∷◌, length, arith, subst}
use Rattle.mz_globals.specs.declared.global.Global.TheVariants as global
use Rattle.mz_symbol.specs.Makes.{GoesOnBy}
use Rattle.glob_nodes.specs.Rows.{row_cost}
use Rattle.glob_nodes.proofs.Saying.{ok_so}
use Rattle.glob_nodes.proofs.Telling.{goes_less, goes_more}
use Rattle.glob_count.proofs.Costs.{count_of_cost}
use Rattle.glob_count.proofs.Functions.{count_of_row}
use Rattle.glob_count.proofs.occurrences.count_of.Goals as goal

pub returns-in_err-count-clause-goes : goal.returns-in_err-count-clause-goes
returns-in_err-count-clause-goes c =
    let most = count_of_cost c.deref.result.now in
    subst (λ ids. GoesOnBy (56 * row_cost global.CountOf (length ids ∷ 1 ∷ [])) c.args.run.now c.occurrences.new.run) c.deref.ensures.value
    (goes_less _ _ c.args.run.now c.occurrences.new.run (omega (arith, most)) c.occurrences.ensures.goes)

pub returns-clause-goes : goal.returns-clause-goes
returns-clause-goes c =
    subst (λ ids. GoesOnBy (56 * row_cost global.CountOf (length ids ∷ 1 ∷ [])) c.args.run.now c.where_both.new.run) c.deref.ensures.value
    (goes_more _ 26 _ c.args.run.now c.occurrences.new.run c.where_both.new.run (count_of_cost c.deref.result.now) c.in_ok-count.ensures.goes c.where_both.ensures.goes)

pub returns-clause-row : goal.returns-clause-row
returns-clause-row c = ok_so c.where_both.result c.where_both.ensures.gives (λ id g. count_of_row c.args.run.now c.occurrences.new.run c.where_both.new.run c.args.xs.now c.deref.result.now c.args.y c.in_ok-count.count id _ _ c.deref.ensures.value c.requires c.in_ok-count.ensures.goes c.in_ok-count.ensures.gives c.where_both.ensures.goes g)
