use Rattle.std.proofs.Common.{◌≡◌, ◌++◌, map, drop}
use Rattle.std.specs.List.{enumerate_from}
use Rattle.mz_check_meaning.specs.Checks.{numbered, case_meaning}
use Rattle.mz_check_exprs.proofs.model_names.add_cases.Given as goal

abbrev pub invariant-loop-k : goal.invariant-loop-k
invariant-loop-k l = l.fn.all.items ++ map (case_meaning l.of) (numbered l.cases) ≡ l.all.items ++ map (case_meaning l.of) (enumerate_from l.k (drop l.k l.cases))
