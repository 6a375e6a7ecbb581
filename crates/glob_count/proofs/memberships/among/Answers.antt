use Rattle.std.proofs.Common.{◌*◌, [], ◌∷◌, length, arith, subst}
use Rattle.mz_globals.specs.declared.global.Global.TheVariants as global
use Rattle.mz_symbol.specs.Makes.{GoesOnBy}
use Rattle.glob_nodes.specs.Rows.{row_cost}
use Rattle.glob_nodes.proofs.Saying.{ok_so}
use Rattle.glob_nodes.proofs.Telling.{goes_less, goes_more}
use Rattle.glob_count.proofs.InSets.{among_cost, among_row}
use Rattle.glob_count.proofs.memberships.among.Goals as goal

pub returns-in_err-body-clause-goes : goal.returns-in_err-body-clause-goes
returns-in_err-body-clause-goes c =
    let most = among_cost c.deref.result.now in
    subst (λ ids. GoesOnBy (56 * row_cost global.Among (1 ∷ length ids ∷ 0 ∷ [])) c.args.run.now c.among_are.new.run) c.deref.ensures.value
    (goes_less _ _ c.args.run.now c.among_are.new.run (omega (arith, most)) c.among_are.ensures.goes)

pub returns-clause-goes : goal.returns-clause-goes
returns-clause-goes c =
    subst (λ ids. GoesOnBy (56 * row_cost global.Among (1 ∷ length ids ∷ 0 ∷ [])) c.args.run.now c.where_among.new.run) c.deref.ensures.value
    (goes_more _ 30 _ c.args.run.now c.among_are.new.run c.where_among.new.run (among_cost c.deref.result.now) c.in_ok-body.ensures.goes c.where_among.ensures.goes)

pub returns-clause-row : goal.returns-clause-row
returns-clause-row c = ok_so c.where_among.result c.where_among.ensures.says (λ id s. among_row c.args.run.now c.among_are.new.run c.where_among.new.run c.args.n c.args.v c.args.xs.now c.deref.result.now c.in_ok-body.body id _ 30 c.deref.ensures.value c.requires c.in_ok-body.ensures.goes c.in_ok-body.ensures.says c.where_among.ensures.goes s)
