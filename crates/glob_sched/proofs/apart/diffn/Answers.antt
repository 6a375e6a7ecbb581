use Rattle.std.proofs.Common.{[], ◌∷◌, zip, arith}
use Rattle.mz_globals.specs.declared.global.Global.TheVariants as global
use Rattle.mz_globals.specs.Scheduling as scheduling
use Rattle.glob_nodes.specs.Arguments.{array_value, numbers_in}
use Rattle.glob_nodes.proofs.Saying.{ok_so}
use Rattle.glob_nodes.proofs.Telling.{goes_less, goes_more}
use Rattle.glob_nodes.proofs.Several.{four_arrays_row}
use Rattle.glob_sched.proofs.Costs.{diffn_cost}
use Rattle.glob_sched.proofs.Lines.{diffn_line}
use Rattle.glob_sched.proofs.Meanings.{diffn_told}
use Rattle.glob_sched.proofs.apart.diffn.Goals as goal

pub returns-in_err-body-clause-goes : goal.returns-in_err-body-clause-goes
returns-in_err-body-clause-goes c =
    let most = diffn_cost c.args.x.now.items.items c.args.y.now.items.items c.args.dx.now.items.items c.args.dy.now.items.items in
    goes_less _ _ c.args.run.now c.all_boxes_apart.new.run (omega (arith, most)) c.all_boxes_apart.ensures.goes

pub returns-clause-goes : goal.returns-clause-goes
returns-clause-goes c = goes_more _ 24 _ c.args.run.now c.all_boxes_apart.new.run c.where_boxes.new.run (diffn_cost c.args.x.now.items.items c.args.y.now.items.items c.args.dx.now.items.items c.args.dy.now.items.items) c.in_ok-body.ensures.goes c.where_boxes.ensures.goes

pub returns-clause-row : goal.returns-clause-row
returns-clause-row c = ok_so c.where_boxes.result c.where_boxes.ensures.says (λ id s. four_arrays_row c.args.run.now c.all_boxes_apart.new.run c.where_boxes.new.run global.Diffn (λ r. array_value r c.args.x.now ∷ array_value r c.args.y.now ∷ array_value r c.args.dx.now ∷ array_value r c.args.dy.now ∷ []) (λ us dus vs dvs. scheduling.is_diffn (zip (zip us dus) (zip vs dvs))) c.args.x.now c.args.dx.now c.args.y.now c.args.dy.now _ c.in_ok-body.body id _ 24
    (λ r. diffn_line (c.args.x.now.first, c.args.x.now.last) (c.args.y.now.first, c.args.y.now.last) (c.args.dx.now.first, c.args.dx.now.last) (c.args.dy.now.first, c.args.dy.now.last) (numbers_in r c.args.x.now) (numbers_in r c.args.y.now) (numbers_in r c.args.dx.now) (numbers_in r c.args.dy.now))
    (λ r us dus vs dvs h i j k. diffn_told r c.args.x.now.items.items c.args.dx.now.items.items c.args.y.now.items.items c.args.dy.now.items.items us dus vs dvs h i j k)
    c.requires.x c.requires.dx c.requires.y c.requires.dy c.in_ok-body.ensures.goes c.in_ok-body.ensures.tells c.where_boxes.ensures.goes s)
