use Rattle.std.proofs.Common.{◌*◌, [], ◌∷◌, length, map, ◌∙◌, ap, arith, subst}
use Rattle.mz_globals.specs.declared.global.Global.TheVariants as global
use Rattle.mz_globals.specs.Order as order
use Rattle.mz_symbol.specs.Makes.{GoesOnBy}
use Rattle.glob_nodes.specs.Says.{num}
use Rattle.glob_nodes.specs.Rows.{row_cost}
use Rattle.glob_nodes.proofs.Saying.{ok_so}
use Rattle.glob_nodes.proofs.Telling.{goes_less, goes_more}
use Rattle.glob_nodes.proofs.Rows.{array_row}
use Rattle.glob_order.proofs.Costs.{ordered_cost}
use Rattle.glob_order.proofs.Lines.{ordered_line}
use Rattle.glob_order.proofs.Meanings.{ordered_told}
use Rattle.glob_order.proofs.alike.ordered.Goals as goal

pub returns-in_err-body-clause-goes : goal.returns-in_err-body-clause-goes
returns-in_err-body-clause-goes c =
    let most = ordered_cost c.args.op c.deref.result.now in
    subst (λ ids. GoesOnBy (56 * row_cost (global.Ordered c.args.op) (length ids ∷ [])) c.args.run.now c.each_next.new.run) c.deref.ensures.value
    (goes_less _ (56 * row_cost (global.Ordered c.args.op) (length c.deref.result.now ∷ [])) c.args.run.now c.each_next.new.run (omega (arith, most)) c.each_next.ensures.goes)

pub returns-clause-goes : goal.returns-clause-goes
returns-clause-goes c =
    subst (λ ids. GoesOnBy (56 * row_cost (global.Ordered c.args.op) (length ids ∷ [])) c.args.run.now c.joined.new.run) c.deref.ensures.value
    (goes_more _ 6 (56 * row_cost (global.Ordered c.args.op) (length c.deref.result.now ∷ [])) c.args.run.now c.each_next.new.run c.joined.new.run (ordered_cost c.args.op c.deref.result.now) c.in_ok-body.ensures.goes c.joined.ensures.goes)

pub returns-clause-row : goal.returns-clause-row
returns-clause-row c = ok_so c.joined.result c.joined.ensures.says (λ id s. array_row c.args.run.now c.each_next.new.run c.joined.new.run (global.Ordered c.args.op) (order.is_ordered c.args.op) c.args.xs.now _ c.in_ok-body.body id _ 6
    (λ o. ordered_line c.args.op (c.args.xs.now.first, c.args.xs.now.last) o)
    (λ r ns h. ordered_told c.args.op r c.deref.result.now ns (ap (λ ids. map (num r) ids) c.deref.ensures.value ∙ h))
    c.requires c.in_ok-body.ensures.goes c.in_ok-body.ensures.tells c.joined.ensures.goes s)
