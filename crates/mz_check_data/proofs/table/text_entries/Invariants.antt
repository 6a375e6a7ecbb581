use Rattle.std.proofs.Common.{◌≡◌, ◌++◌, map, drop}
use Rattle.mz_check_meaning.specs.Checks.{text_entry}
use Rattle.mz_check_data.specs.StepsTables.{entry}
use Rattle.mz_check_data.proofs.table.text_entries.Given as goal

abbrev pub invariant-loop-n : goal.invariant-loop-n
invariant-loop-n l = map (text_entry l.table) l.names ≡ map entry l.all.items ++ map (text_entry l.table) (drop l.n-index l.names)
