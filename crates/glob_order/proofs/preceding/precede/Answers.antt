use Rattle.std.proofs.Common.{◌∙◌, ◌*◌, [], ◌∷◌, false, length, map, ap, arith, subst}
use Rattle.mz_globals.specs.declared.global.Global.TheVariants as global
use Rattle.mz_globals.specs.Order as order
use Rattle.mz_symbol.specs.Makes.{GoesOnBy}
use Rattle.glob_nodes.specs.Says.{num}
use Rattle.glob_nodes.specs.Arguments.{array_value, number_value, numbers_in}
use Rattle.glob_nodes.specs.Rows.{row_cost}
use Rattle.glob_nodes.proofs.Saying.{ok_so}
use Rattle.glob_nodes.proofs.Telling.{goes_less, goes_more}
use Rattle.glob_nodes.proofs.Rows.{numbers_array_row}
use Rattle.glob_order.proofs.Costs.{precede_cost}
use Rattle.glob_order.proofs.Lines.{precede_line}
use Rattle.glob_order.proofs.Meanings.{precede_told}
use Rattle.glob_order.proofs.preceding.precede.Goals as goal

pub returns-in_err-body-clause-goes : goal.returns-in_err-body-clause-goes
returns-in_err-body-clause-goes c =
    let most = precede_cost c.deref.result.now in
    subst (λ ids. GoesOnBy (56 * row_cost global.Precede (1 ∷ 1 ∷ length ids ∷ [])) c.args.run.now c.preceded_by.new.run) c.deref.ensures.value
    (goes_less _ _ c.args.run.now c.preceded_by.new.run (omega (arith, most)) c.preceded_by.ensures.goes)

pub returns-clause-goes : goal.returns-clause-goes
returns-clause-goes c =
    subst (λ ids. GoesOnBy (56 * row_cost global.Precede (1 ∷ 1 ∷ length ids ∷ [])) c.args.run.now c.where_numbers_array.new.run) c.deref.ensures.value
    (goes_more _ 30 _ c.args.run.now c.preceded_by.new.run c.where_numbers_array.new.run (precede_cost c.deref.result.now) c.in_ok-body.ensures.goes c.where_numbers_array.ensures.goes)

pub returns-clause-row : goal.returns-clause-row
returns-clause-row c = ok_so c.where_numbers_array.result c.where_numbers_array.ensures.says (λ id s. numbers_array_row c.args.run.now c.preceded_by.new.run c.where_numbers_array.new.run global.Precede (λ r. number_value r c.args.s ∷ number_value r c.args.t ∷ array_value r c.args.xs.now ∷ []) (λ s t ns. order.precedes s t false ns) c.args.s c.args.t c.args.xs.now _ c.in_ok-body.body id _ 30
    (λ r. precede_line (c.args.xs.now.first, c.args.xs.now.last) (num r c.args.s) (num r c.args.t) (numbers_in r c.args.xs.now))
    (λ r v w ns i j h. precede_told r c.args.s c.args.t c.deref.result.now v w ns i j (ap (λ ids. map (num r) ids) c.deref.ensures.value ∙ h))
    c.requires c.in_ok-body.ensures.goes c.in_ok-body.ensures.tells c.where_numbers_array.ensures.goes s)
