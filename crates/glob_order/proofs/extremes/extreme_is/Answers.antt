use Rattle.std.proofs.Common.{◌∙◌, ◌*◌, [], ◌∷◌, length, map, ap, arith, subst}
use Rattle.mz_globals.specs.declared.global.Global.TheVariants as global
use Rattle.mz_globals.specs.Order as order
use Rattle.mz_symbol.specs.Makes.{GoesOnBy}
use Rattle.glob_nodes.specs.Says.{num}
use Rattle.glob_nodes.specs.Arguments.{array_value, number_value, numbers_in}
use Rattle.glob_nodes.specs.Rows.{row_cost}
use Rattle.glob_nodes.proofs.Saying.{ok_so}
use Rattle.glob_nodes.proofs.Telling.{goes_less, goes_more, tells_of}
use Rattle.glob_nodes.proofs.Rows.{number_array_row}
use Rattle.glob_order.proofs.Costs.{extreme_cost}
use Rattle.glob_order.proofs.Lines.{extreme_line}
use Rattle.glob_order.proofs.Meanings.{extreme_told}
use Rattle.glob_order.proofs.extremes.extreme_is.Goals as goal

pub returns-in_err-body-clause-goes : goal.returns-in_err-body-clause-goes
returns-in_err-body-clause-goes c =
    let most = extreme_cost c.args.side c.deref.result.now in
    subst (λ ids. GoesOnBy (56 * row_cost (global.Extreme c.args.side) (1 ∷ length ids ∷ [])) c.args.run.now c.extreme_equals.new.run) c.deref.ensures.value
    (goes_less _ _ c.args.run.now c.extreme_equals.new.run (omega (arith, most)) c.extreme_equals.ensures.goes)

pub returns-clause-goes : goal.returns-clause-goes
returns-clause-goes c =
    subst (λ ids. GoesOnBy (56 * row_cost (global.Extreme c.args.side) (1 ∷ length ids ∷ [])) c.args.run.now c.where_number_array.new.run) c.deref.ensures.value
    (goes_more _ 18 _ c.args.run.now c.extreme_equals.new.run c.where_number_array.new.run (extreme_cost c.args.side c.deref.result.now) c.in_ok-body.ensures.goes c.where_number_array.ensures.goes)

pub returns-clause-row : goal.returns-clause-row
returns-clause-row c = ok_so c.where_number_array.result c.where_number_array.ensures.says (λ id s. number_array_row c.args.run.now c.extreme_equals.new.run c.where_number_array.new.run (global.Extreme c.args.side) (λ r. number_value r c.args.m ∷ array_value r c.args.xs.now ∷ []) (order.is_extreme c.args.side) c.args.m c.args.xs.now _ c.in_ok-body.body id _ 18
    (λ r. extreme_line c.args.side (c.args.xs.now.first, c.args.xs.now.last) (num r c.args.m) (numbers_in r c.args.xs.now))
    (λ r v ns e h. extreme_told c.args.side r c.args.m c.deref.result.now v ns e (ap (λ ids. map (num r) ids) c.deref.ensures.value ∙ h))
    c.requires c.in_ok-body.ensures.goes (tells_of _ _ _ _ c.in_ok-body.ensures.says) c.where_number_array.ensures.goes s)
