use Rattle.mz_core.specs.Types.{plain_type}
use Rattle.mz_meaning.specs.Domains.{domain_over}
use Rattle.mz_eval_declared.specs.StepsTaking.{Takes}
use Rattle.mz_eval_declared.proofs.arrays.take_each.Given as goal

abbrev pub invariant-loop-i : goal.invariant-loop-i
invariant-loop-i l = Takes l._i (domain_over (plain_type l.t) l.set) l.fn.run l.run
