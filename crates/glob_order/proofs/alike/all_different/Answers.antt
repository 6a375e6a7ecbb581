use Rattle.std.proofs.Common.{◌*◌, [], ◌∷◌, length, map, ◌∙◌, ap, arith, subst}
use Rattle.mz_globals.specs.declared.global.Global.TheVariants as global
use Rattle.mz_globals.specs.Order as order
use Rattle.mz_symbol.specs.Makes.{GoesOnBy}
use Rattle.glob_nodes.specs.Says.{num}
use Rattle.glob_nodes.specs.Rows.{row_cost}
use Rattle.glob_nodes.proofs.Saying.{ok_so}
use Rattle.glob_nodes.proofs.Telling.{goes_less, goes_more}
use Rattle.glob_nodes.proofs.Rows.{array_row}
use Rattle.glob_order.proofs.Costs.{different_cost}
use Rattle.glob_order.proofs.Lines.{different_line}
use Rattle.glob_order.proofs.Meanings.{different_told}
use Rattle.glob_order.proofs.alike.all_different.Goals as goal

pub returns-in_err-body-clause-goes : goal.returns-in_err-body-clause-goes
returns-in_err-body-clause-goes c =
    let most = different_cost c.deref.result.now in
    subst (λ ids. GoesOnBy (56 * row_cost global.AllDifferent (length ids ∷ [])) c.args.run.now c.each_two.new.run) c.deref.ensures.value
    (goes_less _ (56 * row_cost global.AllDifferent (length c.deref.result.now ∷ [])) c.args.run.now c.each_two.new.run (omega (arith, most)) c.each_two.ensures.goes)

pub returns-clause-goes : goal.returns-clause-goes
returns-clause-goes c =
    subst (λ ids. GoesOnBy (56 * row_cost global.AllDifferent (length ids ∷ [])) c.args.run.now c.joined.new.run) c.deref.ensures.value
    (goes_more _ 6 (56 * row_cost global.AllDifferent (length c.deref.result.now ∷ [])) c.args.run.now c.each_two.new.run c.joined.new.run (different_cost c.deref.result.now) c.in_ok-body.ensures.goes c.joined.ensures.goes)

pub returns-clause-row : goal.returns-clause-row
returns-clause-row c = ok_so c.joined.result c.joined.ensures.says (λ id s. array_row c.args.run.now c.each_two.new.run c.joined.new.run global.AllDifferent order.all_different c.args.xs.now _ c.in_ok-body.body id _ 6
    (λ o. different_line (c.args.xs.now.first, c.args.xs.now.last) o)
    (λ r ns h. different_told r c.deref.result.now ns (ap (λ ids. map (num r) ids) c.deref.ensures.value ∙ h))
    c.requires c.in_ok-body.ensures.goes c.in_ok-body.ensures.tells c.joined.ensures.goes s)
