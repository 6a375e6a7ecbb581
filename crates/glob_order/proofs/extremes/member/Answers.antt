use Rattle.std.proofs.Common.{◌∙◌, ◌*◌, [], ◌∷◌, length, map, ap, arith, subst}
use Rattle.mz_globals.specs.declared.global.Global.TheVariants as global
use Rattle.mz_symbol.specs.Makes.{GoesOnBy}
use Rattle.glob_nodes.specs.Says.{num}
use Rattle.glob_nodes.specs.Arguments.{array_value, number_value, numbers_in}
use Rattle.glob_nodes.specs.Rows.{row_cost}
use Rattle.glob_nodes.proofs.Saying.{ok_so}
use Rattle.glob_nodes.proofs.Telling.{goes_less, goes_more}
use Rattle.glob_nodes.proofs.Rows.{number_array_row}
use Rattle.glob_order.proofs.Costs.{member_cost}
use Rattle.glob_order.proofs.Lines.{is_member, member_line}
use Rattle.glob_order.proofs.Meanings.{member_told}
use Rattle.glob_order.proofs.extremes.member.Goals as goal

pub returns-in_err-body-clause-goes : goal.returns-in_err-body-clause-goes
returns-in_err-body-clause-goes c =
    let most = member_cost c.deref.result.now in
    subst (λ ids. GoesOnBy (56 * row_cost global.Member (length ids ∷ 1 ∷ [])) c.args.run.now c.equals_one.new.run) c.deref.ensures.value
    (goes_less _ _ c.args.run.now c.equals_one.new.run (omega (arith, most)) c.equals_one.ensures.goes)

pub returns-clause-goes : goal.returns-clause-goes
returns-clause-goes c =
    subst (λ ids. GoesOnBy (56 * row_cost global.Member (length ids ∷ 1 ∷ [])) c.args.run.now c.where_number_array.new.run) c.deref.ensures.value
    (goes_more _ 18 _ c.args.run.now c.equals_one.new.run c.where_number_array.new.run (member_cost c.deref.result.now) c.in_ok-body.ensures.goes c.where_number_array.ensures.goes)

pub returns-clause-row : goal.returns-clause-row
returns-clause-row c = ok_so c.where_number_array.result c.where_number_array.ensures.says (λ id s. number_array_row c.args.run.now c.equals_one.new.run c.where_number_array.new.run global.Member (λ r. array_value r c.args.xs.now ∷ number_value r c.args.y ∷ []) (λ v ns. is_member ns v) c.args.y c.args.xs.now _ c.in_ok-body.body id _ 18
    (λ r. member_line (c.args.xs.now.first, c.args.xs.now.last) (numbers_in r c.args.xs.now) (num r c.args.y))
    (λ r v ns e h. member_told r c.args.y c.deref.result.now ns v (ap (λ ids. map (num r) ids) c.deref.ensures.value ∙ h) e)
    c.requires c.in_ok-body.ensures.goes c.in_ok-body.ensures.tells c.where_number_array.ensures.goes s)
