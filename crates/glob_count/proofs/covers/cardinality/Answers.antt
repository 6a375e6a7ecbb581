use Rattle.std.proofs.Common.{[], ◌∷◌, arith}
use Rattle.mz_globals.specs.declared.global.Global.TheVariants as global
use Rattle.mz_globals.specs.Counting as counting
use Rattle.glob_nodes.specs.Arguments.{array_value, numbers_in}
use Rattle.glob_nodes.proofs.Saying.{ok_so}
use Rattle.glob_nodes.proofs.Telling.{goes_less, goes_more}
use Rattle.glob_nodes.proofs.Several.{three_arrays_row}
use Rattle.glob_count.proofs.Covering.{cardinality_cost, cardinality_line, cardinality_told}
use Rattle.glob_count.proofs.covers.cardinality.Goals as goal

pub returns-in_err-body-clause-goes : goal.returns-in_err-body-clause-goes
returns-in_err-body-clause-goes c =
    let most = cardinality_cost c.args.xs.now.items.items c.args.cover.now.items.items c.args.counts.now.items.items in
    goes_less _ _ c.args.run.now c.all_counted.new.run (omega (arith, most)) c.all_counted.ensures.goes

pub returns-clause-goes : goal.returns-clause-goes
returns-clause-goes c = goes_more _ 18 _ c.args.run.now c.all_counted.new.run c.where_three.new.run (cardinality_cost c.args.xs.now.items.items c.args.cover.now.items.items c.args.counts.now.items.items) c.in_ok-body.ensures.goes c.where_three.ensures.goes

pub returns-clause-row : goal.returns-clause-row
returns-clause-row c = ok_so c.where_three.result c.where_three.ensures.says (λ id s. three_arrays_row c.args.run.now c.all_counted.new.run c.where_three.new.run global.Cardinality (λ r. array_value r c.args.xs.now ∷ array_value r c.args.cover.now ∷ array_value r c.args.counts.now ∷ []) counting.are_counts c.args.xs.now c.args.cover.now c.args.counts.now _ c.in_ok-body.body id _ 18
    (λ r. cardinality_line (c.args.xs.now.first, c.args.xs.now.last) (c.args.cover.now.first, c.args.cover.now.last) (c.args.counts.now.first, c.args.counts.now.last) (numbers_in r c.args.xs.now) (numbers_in r c.args.cover.now) (numbers_in r c.args.counts.now))
    (λ r us vs ws h i j. cardinality_told r c.args.xs.now.items.items c.args.cover.now.items.items c.args.counts.now.items.items us vs ws h i j)
    c.requires.xs c.requires.cover c.requires.counts c.in_ok-body.ensures.goes c.in_ok-body.ensures.tells c.where_three.ensures.goes s)
