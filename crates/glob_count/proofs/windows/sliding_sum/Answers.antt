use Rattle.std.proofs.Common.{◌∙◌, ◌*◌, [], ◌∷◌, length, map, ap, arith, subst}
use Rattle.mz_globals.specs.declared.global.Global.TheVariants as global
use Rattle.mz_symbol.specs.Makes.{GoesOnBy}
use Rattle.glob_nodes.specs.Says.{num}
use Rattle.glob_nodes.specs.Arguments.{array_value, number_value, numbers_in}
use Rattle.glob_nodes.specs.Rows.{row_cost}
use Rattle.glob_nodes.proofs.Saying.{ok_so}
use Rattle.glob_nodes.proofs.Telling.{goes_less, goes_more}
use Rattle.glob_nodes.proofs.Rows.{numbers_array_row}
use Rattle.glob_count.specs.Windows.{count_value}
use Rattle.glob_count.proofs.Sliding.{sliding_cost, sliding_line, sliding_told, slides}
use Rattle.glob_count.proofs.windows.sliding_sum.Goals as goal

pub returns-in_err-body-clause-goes : goal.returns-in_err-body-clause-goes
returns-in_err-body-clause-goes c =
    let most = sliding_cost c.args.seq c.deref.result.now in
    subst (λ ids. GoesOnBy (56 * row_cost global.SlidingSum (1 ∷ 1 ∷ 1 ∷ length ids ∷ [])) c.args.run.now c.slides.new.run) c.deref.ensures.value
    (goes_less _ _ c.args.run.now c.slides.new.run (omega (arith, most)) c.slides.ensures.goes)

pub returns-clause-goes : goal.returns-clause-goes
returns-clause-goes c =
    subst (λ ids. GoesOnBy (56 * row_cost global.SlidingSum (1 ∷ 1 ∷ 1 ∷ length ids ∷ [])) c.args.run.now c.where_numbers_array.new.run) c.deref.ensures.value
    (goes_more _ 30 _ c.args.run.now c.slides.new.run c.where_numbers_array.new.run (sliding_cost c.args.seq c.deref.result.now) c.in_ok-body.ensures.goes c.where_numbers_array.ensures.goes)

pub returns-clause-row : goal.returns-clause-row
returns-clause-row c = ok_so c.where_numbers_array.result c.where_numbers_array.ensures.says (λ id s. numbers_array_row c.args.run.now c.slides.new.run c.where_numbers_array.new.run global.SlidingSum (λ r. number_value r c.args.low ∷ number_value r c.args.up ∷ count_value c.args.seq ∷ array_value r c.args.xs.now ∷ []) (slides c.args.seq) c.args.low c.args.up c.args.xs.now _ c.in_ok-body.body id _ 30
    (λ r. sliding_line c.args.seq (c.args.xs.now.first, c.args.xs.now.last) (num r c.args.low) (num r c.args.up) (numbers_in r c.args.xs.now))
    (λ r l u ns h k e. sliding_told r c.args.low c.args.up c.args.seq c.deref.result.now l u ns h k (ap (λ ids. map (num r) ids) c.deref.ensures.value ∙ e))
    c.requires c.in_ok-body.ensures.goes c.in_ok-body.ensures.tells c.where_numbers_array.ensures.goes s)
