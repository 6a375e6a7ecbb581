use Rattle.std.proofs.Common.{[], ◌∷◌, zip, arith}
use Rattle.mz_globals.specs.declared.global.Global.TheVariants as global
use Rattle.mz_globals.specs.Scheduling as scheduling
use Rattle.glob_nodes.specs.Arguments.{array_value, numbers_in}
use Rattle.glob_nodes.proofs.Saying.{ok_so}
use Rattle.glob_nodes.proofs.Telling.{goes_less, goes_more}
use Rattle.glob_nodes.proofs.Rows.{arrays_row}
use Rattle.glob_sched.proofs.Costs.{strict_cost}
use Rattle.glob_sched.proofs.Lines.{strict_line}
use Rattle.glob_sched.proofs.Meanings.{strict_told}
use Rattle.glob_sched.proofs.apart.disjunctive_strict.Goals as goal

pub returns-in_err-body-clause-goes : goal.returns-in_err-body-clause-goes
returns-in_err-body-clause-goes c =
    let most = strict_cost c.args.s.now.items.items c.args.d.now.items.items in
    goes_less _ _ c.args.run.now c.all_apart.new.run (omega (arith, most)) c.all_apart.ensures.goes

pub returns-clause-goes : goal.returns-clause-goes
returns-clause-goes c = goes_more _ 12 _ c.args.run.now c.all_apart.new.run c.where_arrays.new.run (strict_cost c.args.s.now.items.items c.args.d.now.items.items) c.in_ok-body.ensures.goes c.where_arrays.ensures.goes

pub returns-clause-row : goal.returns-clause-row
returns-clause-row c = ok_so c.where_arrays.result c.where_arrays.ensures.says (λ id s. arrays_row c.args.run.now c.all_apart.new.run c.where_arrays.new.run global.DisjunctiveStrict (λ r. array_value r c.args.s.now ∷ array_value r c.args.d.now ∷ []) (λ us vs. scheduling.is_strictly_disjunctive (zip us vs)) c.args.s.now c.args.d.now _ c.in_ok-body.body id _ 12
    (λ r. strict_line (c.args.s.now.first, c.args.s.now.last) (c.args.d.now.first, c.args.d.now.last) (numbers_in r c.args.s.now) (numbers_in r c.args.d.now))
    (λ r us vs h k. strict_told r c.args.s.now.items.items c.args.d.now.items.items us vs h k)
    c.requires.first c.requires.second c.in_ok-body.ensures.goes c.in_ok-body.ensures.tells c.where_arrays.ensures.goes s)
