use Rattle.std.proofs.Common.{◌∙◌, ◌*◌, [], ◌∷◌, length, map, ap, arith, subst}
use Rattle.mz_globals.specs.declared.global.Global.TheVariants as global
use Rattle.mz_symbol.specs.Makes.{GoesOnBy}
use Rattle.glob_nodes.specs.Says.{num}
use Rattle.glob_nodes.specs.Arguments.{array_value, number_value, numbers_in}
use Rattle.glob_nodes.specs.Rows.{row_cost}
use Rattle.glob_nodes.proofs.Saying.{ok_so}
use Rattle.glob_nodes.proofs.Telling.{goes_less, goes_more, tells_of}
use Rattle.glob_nodes.proofs.Rows.{number_array_row}
use Rattle.glob_count.proofs.Costs.{distinct_cost}
use Rattle.glob_count.proofs.Lines.{has_values, distinct_line}
use Rattle.glob_count.proofs.Meanings.{distinct_told}
use Rattle.glob_count.proofs.values.different_values.Goals as goal

pub returns-in_err-body-clause-goes : goal.returns-in_err-body-clause-goes
returns-in_err-body-clause-goes c =
    let most = distinct_cost c.deref.result.now in
    subst (λ ids. GoesOnBy (56 * row_cost global.DifferentValues (1 ∷ length ids ∷ [])) c.args.run.now c.distinct_are.new.run) c.deref.ensures.value
    (goes_less _ _ c.args.run.now c.distinct_are.new.run (omega (arith, most)) c.distinct_are.ensures.goes)

pub returns-clause-goes : goal.returns-clause-goes
returns-clause-goes c =
    subst (λ ids. GoesOnBy (56 * row_cost global.DifferentValues (1 ∷ length ids ∷ [])) c.args.run.now c.where_number_array.new.run) c.deref.ensures.value
    (goes_more _ 18 _ c.args.run.now c.distinct_are.new.run c.where_number_array.new.run (distinct_cost c.deref.result.now) c.in_ok-body.ensures.goes c.where_number_array.ensures.goes)

pub returns-clause-row : goal.returns-clause-row
returns-clause-row c = ok_so c.where_number_array.result c.where_number_array.ensures.says (λ id s. number_array_row c.args.run.now c.distinct_are.new.run c.where_number_array.new.run global.DifferentValues (λ r. number_value r c.args.n ∷ array_value r c.args.xs.now ∷ []) has_values c.args.n c.args.xs.now _ c.in_ok-body.body id _ 18
    (λ r. distinct_line (c.args.xs.now.first, c.args.xs.now.last) (num r c.args.n) (numbers_in r c.args.xs.now))
    (λ r v ns e h. distinct_told r c.args.n c.deref.result.now v ns e (ap (λ ids. map (num r) ids) c.deref.ensures.value ∙ h))
    c.requires c.in_ok-body.ensures.goes (tells_of _ _ _ _ c.in_ok-body.ensures.says) c.where_number_array.ensures.goes s)
