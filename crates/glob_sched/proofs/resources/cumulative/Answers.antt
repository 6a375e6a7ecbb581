use Rattle.std.proofs.Common.{[], ◌∷◌, zip, arith}
use Rattle.mz_globals.specs.declared.global.Global.TheVariants as global
use Rattle.mz_globals.specs.Scheduling as scheduling
use Rattle.glob_nodes.specs.Says.{num}
use Rattle.glob_nodes.specs.Arguments.{array_value, number_value, numbers_in}
use Rattle.glob_nodes.proofs.Saying.{ok_so}
use Rattle.glob_nodes.proofs.Telling.{goes_less, goes_more}
use Rattle.glob_nodes.proofs.Several.{arrays_number_row}
use Rattle.glob_sched.proofs.Costs.{cumulative_cost}
use Rattle.glob_sched.proofs.Lines.{cumulative_line}
use Rattle.glob_sched.proofs.Meanings.{cumulative_told}
use Rattle.glob_sched.proofs.resources.cumulative.Goals as goal

pub returns-in_err-body-clause-goes : goal.returns-in_err-body-clause-goes
returns-in_err-body-clause-goes c =
    let most = cumulative_cost c.args.s.now.items.items c.args.d.now.items.items c.args.u.now.items.items in
    goes_less _ _ c.args.run.now c.all_fit.new.run (omega (arith, most)) c.all_fit.ensures.goes

pub returns-clause-goes : goal.returns-clause-goes
returns-clause-goes c = goes_more _ 30 _ c.args.run.now c.all_fit.new.run c.where_tasks.new.run (cumulative_cost c.args.s.now.items.items c.args.d.now.items.items c.args.u.now.items.items) c.in_ok-body.ensures.goes c.where_tasks.ensures.goes

pub returns-clause-row : goal.returns-clause-row
returns-clause-row c = ok_so c.where_tasks.result c.where_tasks.ensures.says (λ id s. arrays_number_row c.args.run.now c.all_fit.new.run c.where_tasks.new.run global.Cumulative (λ r. array_value r c.args.s.now ∷ array_value r c.args.d.now ∷ array_value r c.args.u.now ∷ number_value r c.args.b ∷ []) (λ us vs ws m. scheduling.is_cumulative (zip (zip us vs) ws) m) c.args.s.now c.args.d.now c.args.u.now c.args.b _ c.in_ok-body.body id _ 30
    (λ r. cumulative_line (c.args.s.now.first, c.args.s.now.last) (c.args.d.now.first, c.args.d.now.last) (c.args.u.now.first, c.args.u.now.last) (numbers_in r c.args.s.now) (numbers_in r c.args.d.now) (numbers_in r c.args.u.now) (num r c.args.b))
    (λ r us vs ws m h i j k. cumulative_told r c.args.s.now.items.items c.args.d.now.items.items c.args.u.now.items.items c.args.b us vs ws m h i j k)
    c.requires.s c.requires.d c.requires.u c.in_ok-body.ensures.goes c.in_ok-body.ensures.tells c.where_tasks.ensures.goes s)
