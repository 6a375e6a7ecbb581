use Rattle.mz_symbol.proofs.ConstantLaws.{out_value, out_state}
use Rattle.mz_eval_arrays.proofs.BranchLaws.{condition_told}
use Rattle.mz_eval_arrays.proofs.branches.condition.Goals as goal

pub returns-clause-holds : goal.returns-clause-holds
returns-clause-holds c r h =
    let e = c.in_ok-s.ensures.means r h in
    record { same = out_state e; holds = condition_told r c.args.k.now c.in_ok-s.s c.in_ok-id.id (out_value e) c.in_ok-id.ensures }
