use Rattle.std.proofs.Common.{◌≡◌, drop}
use Rattle.std.specs.List.{list_all}
use Rattle.mz_eval_branches.specs.BranchLines.{has_no_value}
use Rattle.mz_eval_branches.proofs.undefined.have_no_value.Given as goal

abbrev pub invariant-loop-p : goal.invariant-loop-p
invariant-loop-p l = list_all (λ p. has_no_value p.1) l.branches ≡ list_all (λ p. has_no_value p.1) (drop l.p-index l.branches)
