use Rattle.std.proofs.Common.{◌≡◌, ◌++◌, drop}
use Rattle.mz_check_context.proofs.meanings.Meanings.of.Given as goal

abbrev pub invariant-loop-e : goal.invariant-loop-e
invariant-loop-e l = l.meanings ++ drop l.e-index l.entries ≡ l.entries
