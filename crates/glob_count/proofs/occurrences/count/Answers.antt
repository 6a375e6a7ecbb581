use Rattle.std.proofs.Common.{◌∙◌, ◌*◌, [], ◌∷◌, length, map, ap, arith, subst}
use Rattle.mz_globals.specs.declared.global.Global.TheVariants as global
use Rattle.mz_globals.specs.declared.global.Relation.TheVariants as relation
use Rattle.mz_symbol.specs.Makes.{GoesOnBy}
use Rattle.glob_nodes.specs.Says.{num}
use Rattle.glob_nodes.specs.Arguments.{array_value, number_value, numbers_in}
use Rattle.glob_nodes.specs.Rows.{row_cost}
use Rattle.glob_nodes.proofs.Saying.{ok_so}
use Rattle.glob_nodes.proofs.Telling.{goes_less, goes_more, tells_of}
use Rattle.glob_nodes.proofs.Rows.{numbers_array_row}
use Rattle.glob_count.proofs.Costs.{count_cost}
use Rattle.glob_count.proofs.Lines.{counts, count_line}
use Rattle.glob_count.proofs.Meanings.{occurs_told}
use Rattle.glob_count.proofs.occurrences.count.Goals as goal

pub returns-in_err-body-clause-goes : goal.returns-in_err-body-clause-goes
returns-in_err-body-clause-goes c =
    let most = count_cost c.deref.result.now in
    subst (λ ids. GoesOnBy (56 * row_cost global.Count (length ids ∷ 1 ∷ 1 ∷ [])) c.args.run.now c.occurs.new.run) c.deref.ensures.value
    (goes_less _ _ c.args.run.now c.occurs.new.run (omega (arith, most)) c.occurs.ensures.goes)

pub returns-clause-goes : goal.returns-clause-goes
returns-clause-goes c =
    subst (λ ids. GoesOnBy (56 * row_cost global.Count (length ids ∷ 1 ∷ 1 ∷ [])) c.args.run.now c.where_numbers_array.new.run) c.deref.ensures.value
    (goes_more _ 30 _ c.args.run.now c.occurs.new.run c.where_numbers_array.new.run (count_cost c.deref.result.now) c.in_ok-body.ensures.goes c.where_numbers_array.ensures.goes)

pub returns-clause-row : goal.returns-clause-row
returns-clause-row c = ok_so c.where_numbers_array.result c.where_numbers_array.ensures.says (λ id s. numbers_array_row c.args.run.now c.occurs.new.run c.where_numbers_array.new.run global.Count (λ r. array_value r c.args.xs.now ∷ number_value r c.args.y ∷ number_value r c.args.c ∷ []) counts c.args.y c.args.c c.args.xs.now _ c.in_ok-body.body id _ 30
    (λ r. count_line (c.args.xs.now.first, c.args.xs.now.last) (numbers_in r c.args.xs.now) (num r c.args.y) (num r c.args.c))
    (λ r v w ns i j h. occurs_told relation.Exactly r c.args.y c.args.c c.deref.result.now v w ns i j (ap (λ ids. map (num r) ids) c.deref.ensures.value ∙ h))
    c.requires c.in_ok-body.ensures.goes (tells_of _ _ _ _ c.in_ok-body.ensures.says) c.where_numbers_array.ensures.goes s)
