use Rattle.std.proofs.Common.{◌≡◌, ℕ, ◌++◌, drop}
use Rattle.mz_check_meaning.specs.Models.{entries_of}
use Rattle.mz_check_context.specs.Tables.{numbers_found}
use Rattle.mz_check_context.proofs.groups.Groups.of.Given as goal

abbrev pub invariant-loop-e : goal.invariant-loop-e
invariant-loop-e l = (n : ℕ) → numbers_found l.groups n ++ entries_of n (drop l.e-index l.entries) ≡ entries_of n l.entries
