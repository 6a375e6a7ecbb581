use Rattle.std.proofs.Common.{◌∙◌, ◌*◌, [], ◌∷◌, length, map, ap, arith, subst}
use Rattle.mz_globals.specs.declared.global.Global.TheVariants as global
use Rattle.mz_globals.specs.Order as order
use Rattle.mz_symbol.specs.Makes.{GoesOnBy}
use Rattle.glob_nodes.specs.Says.{num}
use Rattle.glob_nodes.specs.Arguments.{array_value, numbers_in}
use Rattle.glob_nodes.specs.Rows.{row_cost}
use Rattle.glob_nodes.proofs.Saying.{ok_so}
use Rattle.glob_nodes.proofs.Telling.{goes_less, goes_more}
use Rattle.glob_nodes.proofs.Rows.{arrays_row}
use Rattle.glob_order.proofs.Sorted.{sort_cost, sort_line, sorted_told}
use Rattle.glob_order.proofs.sorting.sort.Goals as goal

pub returns-in_err-body-clause-goes : goal.returns-in_err-body-clause-goes
returns-in_err-body-clause-goes c =
    let most = sort_cost c.deref.result.now c.deref-2.result.now in
    subst (λ ids. GoesOnBy (56 * row_cost global.Sort (length ids ∷ length c.args.ys.now.items.items ∷ [])) c.args.run.now c.sorted.new.run) c.deref.ensures.value
    (subst (λ ids. GoesOnBy (56 * row_cost global.Sort (length c.deref.result.now ∷ length ids ∷ [])) c.args.run.now c.sorted.new.run) c.deref-2.ensures.value
    (goes_less _ (56 * row_cost global.Sort (length c.deref.result.now ∷ length c.deref-2.result.now ∷ [])) c.args.run.now c.sorted.new.run (omega (arith, most)) c.sorted.ensures.goes))

pub returns-clause-goes : goal.returns-clause-goes
returns-clause-goes c =
    subst (λ ids. GoesOnBy (56 * row_cost global.Sort (length ids ∷ length c.args.ys.now.items.items ∷ [])) c.args.run.now c.where_arrays.new.run) c.deref.ensures.value
    (subst (λ ids. GoesOnBy (56 * row_cost global.Sort (length c.deref.result.now ∷ length ids ∷ [])) c.args.run.now c.where_arrays.new.run) c.deref-2.ensures.value
    (goes_more _ 12 (56 * row_cost global.Sort (length c.deref.result.now ∷ length c.deref-2.result.now ∷ [])) c.args.run.now c.sorted.new.run c.where_arrays.new.run (sort_cost c.deref.result.now c.deref-2.result.now) c.in_ok-body.ensures.goes c.where_arrays.ensures.goes))

pub returns-clause-row : goal.returns-clause-row
returns-clause-row c = ok_so c.where_arrays.result c.where_arrays.ensures.says (λ id s. arrays_row c.args.run.now c.sorted.new.run c.where_arrays.new.run global.Sort (λ r. array_value r c.args.xs.now ∷ array_value r c.args.ys.now ∷ []) order.sorts c.args.xs.now c.args.ys.now _ c.in_ok-body.body id _ 12
    (λ r. sort_line (c.args.xs.now.first, c.args.xs.now.last) (c.args.ys.now.first, c.args.ys.now.last) (numbers_in r c.args.xs.now) (numbers_in r c.args.ys.now))
    (λ r us vs h k. sorted_told r c.deref.result.now c.deref-2.result.now us vs (ap (λ ids. map (num r) ids) c.deref.ensures.value ∙ h) (ap (λ ids. map (num r) ids) c.deref-2.ensures.value ∙ k))
    c.requires.first c.requires.second c.in_ok-body.ensures.goes c.in_ok-body.ensures.tells c.where_arrays.ensures.goes s)
