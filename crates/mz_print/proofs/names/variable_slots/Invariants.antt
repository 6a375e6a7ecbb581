use Rattle.std.proofs.Common.{◌≡◌, ◌++◌, drop}
use Rattle.mz_print.specs.Output.{variable_slots}
use Rattle.mz_print.specs.Names.{top_names}
use Rattle.mz_print.proofs.names.variable_slots.Given as goal

abbrev pub invariant-loop-name : goal.invariant-loop-name
invariant-loop-name l = variable_slots (top_names l.names) ≡ l.slots.items ++ variable_slots (top_names (drop l.name-index l.names))
