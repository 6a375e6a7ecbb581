use Rattle.std.proofs.Common.{◌∙◌, ◌*◌, [], ◌∷◌, length, map, ap, arith, subst}
use Rattle.mz_globals.specs.declared.global.Global.TheVariants as global
use Rattle.mz_symbol.specs.Makes.{GoesOnBy}
use Rattle.glob_nodes.specs.Says.{num}
use Rattle.glob_nodes.specs.Arguments.{array_value, number_value, numbers_in}
use Rattle.glob_nodes.specs.Rows.{row_cost}
use Rattle.glob_nodes.proofs.Saying.{ok_so}
use Rattle.glob_nodes.proofs.Telling.{goes_less, goes_more, tells_of}
use Rattle.glob_nodes.proofs.Rows.{numbers_array_row}
use Rattle.glob_count.proofs.Costs.{times_cost}
use Rattle.glob_count.proofs.Lines.{has_times, times_line}
use Rattle.glob_count.proofs.Meanings.{occurs_told}
use Rattle.glob_count.proofs.occurrences.times.Goals as goal

pub returns-in_err-body-clause-goes : goal.returns-in_err-body-clause-goes
returns-in_err-body-clause-goes c =
    let most = times_cost c.args.relation c.deref.result.now in
    subst (λ ids. GoesOnBy (56 * row_cost (global.Times c.args.relation) (1 ∷ length ids ∷ 1 ∷ [])) c.args.run.now c.occurs.new.run) c.deref.ensures.value
    (goes_less _ _ c.args.run.now c.occurs.new.run (omega (arith, most)) c.occurs.ensures.goes)

pub returns-clause-goes : goal.returns-clause-goes
returns-clause-goes c =
    subst (λ ids. GoesOnBy (56 * row_cost (global.Times c.args.relation) (1 ∷ length ids ∷ 1 ∷ [])) c.args.run.now c.where_numbers_array.new.run) c.deref.ensures.value
    (goes_more _ 30 _ c.args.run.now c.occurs.new.run c.where_numbers_array.new.run (times_cost c.args.relation c.deref.result.now) c.in_ok-body.ensures.goes c.where_numbers_array.ensures.goes)

pub returns-clause-row : goal.returns-clause-row
returns-clause-row c = ok_so c.where_numbers_array.result c.where_numbers_array.ensures.says (λ id s. numbers_array_row c.args.run.now c.occurs.new.run c.where_numbers_array.new.run (global.Times c.args.relation) (λ r. number_value r c.args.n ∷ array_value r c.args.xs.now ∷ number_value r c.args.v ∷ []) (has_times c.args.relation) c.args.n c.args.v c.args.xs.now _ c.in_ok-body.body id _ 30
    (λ r. times_line c.args.relation (c.args.xs.now.first, c.args.xs.now.last) (num r c.args.n) (numbers_in r c.args.xs.now) (num r c.args.v))
    (λ r v w ns i j h. occurs_told c.args.relation r c.args.v c.args.n c.deref.result.now w v ns j i (ap (λ ids. map (num r) ids) c.deref.ensures.value ∙ h))
    c.requires c.in_ok-body.ensures.goes (tells_of _ _ _ _ c.in_ok-body.ensures.says) c.where_numbers_array.ensures.goes s)
