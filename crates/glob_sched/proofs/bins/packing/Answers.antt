use Rattle.std.proofs.Common.{[], ◌∷◌, zip, arith}
use Rattle.mz_globals.specs.declared.global.Global.TheVariants as global
use Rattle.mz_globals.specs.Scheduling as scheduling
use Rattle.glob_nodes.specs.Says.{num}
use Rattle.glob_nodes.specs.Arguments.{array_value, number_value, numbers_in}
use Rattle.glob_nodes.proofs.Saying.{ok_so}
use Rattle.glob_nodes.proofs.Telling.{goes_less, goes_more}
use Rattle.glob_nodes.proofs.Several.{number_arrays_row}
use Rattle.glob_sched.proofs.Costs.{packing_cost}
use Rattle.glob_sched.proofs.Lines.{packing_line}
use Rattle.glob_sched.proofs.Meanings.{packing_told}
use Rattle.glob_sched.proofs.bins.packing.Goals as goal

pub returns-in_err-body-clause-goes : goal.returns-in_err-body-clause-goes
returns-in_err-body-clause-goes c =
    let most = packing_cost c.args.bins.now.items.items c.args.weights.now.items.items in
    goes_less _ _ c.args.run.now c.all_fit.new.run (omega (arith, most)) c.all_fit.ensures.goes

pub returns-clause-goes : goal.returns-clause-goes
returns-clause-goes c = goes_more _ 24 _ c.args.run.now c.all_fit.new.run c.where_things.new.run (packing_cost c.args.bins.now.items.items c.args.weights.now.items.items) c.in_ok-body.ensures.goes c.where_things.ensures.goes

pub returns-clause-row : goal.returns-clause-row
returns-clause-row c = ok_so c.where_things.result c.where_things.ensures.says (λ id s. number_arrays_row c.args.run.now c.all_fit.new.run c.where_things.new.run global.Packing (λ r. number_value r c.args.c ∷ array_value r c.args.bins.now ∷ array_value r c.args.weights.now ∷ []) (λ m us vs. scheduling.packs m (zip us vs)) c.args.c c.args.bins.now c.args.weights.now _ c.in_ok-body.body id _ 24
    (λ r. packing_line (c.args.bins.now.first, c.args.bins.now.last) (c.args.weights.now.first, c.args.weights.now.last) (num r c.args.c) (numbers_in r c.args.bins.now) (numbers_in r c.args.weights.now))
    (λ r m us vs k h i. packing_told r c.args.bins.now.items.items c.args.weights.now.items.items c.args.c us vs m k h i)
    c.requires.bins c.requires.weights c.in_ok-body.ensures.goes c.in_ok-body.ensures.tells c.where_things.ensures.goes s)
