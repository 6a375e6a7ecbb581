use Rattle.std.proofs.Common.{[], ◌∷◌, zip, arith}
use Rattle.mz_globals.specs.declared.global.Global.TheVariants as global
use Rattle.mz_globals.specs.Scheduling as scheduling
use Rattle.glob_nodes.specs.Arguments.{array_value, numbers_in}
use Rattle.glob_nodes.proofs.Saying.{ok_so}
use Rattle.glob_nodes.proofs.Telling.{goes_less, goes_more}
use Rattle.glob_nodes.proofs.Several.{placed, three_arrays_row}
use Rattle.glob_sched.proofs.Costs.{load_cost}
use Rattle.glob_sched.proofs.Lines.{load_line}
use Rattle.glob_sched.proofs.Meanings.{loads_told}
use Rattle.glob_sched.proofs.loads.packing_load.Goals as goal

pub returns-in_err-body-clause-goes : goal.returns-in_err-body-clause-goes
returns-in_err-body-clause-goes c =
    let most = load_cost c.args.loads.now.items.items c.args.bins.now.items.items c.args.weights.now.items.items in
    goes_less _ _ c.args.run.now c.loads_are.new.run (omega (arith, most)) c.loads_are.ensures.goes

pub returns-clause-goes : goal.returns-clause-goes
returns-clause-goes c = goes_more _ 18 _ c.args.run.now c.loads_are.new.run c.where_loads.new.run (load_cost c.args.loads.now.items.items c.args.bins.now.items.items c.args.weights.now.items.items) c.in_ok-body.ensures.goes c.where_loads.ensures.goes

pub returns-clause-row : goal.returns-clause-row
returns-clause-row c = ok_so c.where_loads.result c.where_loads.ensures.says (λ id s. three_arrays_row c.args.run.now c.loads_are.new.run c.where_loads.new.run global.PackingLoad (λ r. array_value r c.args.loads.now ∷ array_value r c.args.bins.now ∷ array_value r c.args.weights.now ∷ []) (λ ls us vs. scheduling.are_loads (placed (c.args.loads.now.first, c.args.loads.now.last) ls) (zip us vs)) c.args.loads.now c.args.bins.now c.args.weights.now _ c.in_ok-body.body id _ 18
    (λ r. load_line (c.args.loads.now.first, c.args.loads.now.last) (c.args.bins.now.first, c.args.bins.now.last) (c.args.weights.now.first, c.args.weights.now.last) (numbers_in r c.args.loads.now) (numbers_in r c.args.bins.now) (numbers_in r c.args.weights.now))
    (λ r ls us vs h i j. loads_told r (c.args.loads.now.first, c.args.loads.now.last) c.args.loads.now.items.items c.args.bins.now.items.items c.args.weights.now.items.items ls us vs h i j)
    c.requires.loads c.requires.bins c.requires.weights c.in_ok-body.ensures.goes c.in_ok-body.ensures.tells c.where_loads.ensures.goes s)
