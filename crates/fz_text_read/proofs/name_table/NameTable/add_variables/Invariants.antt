use Rattle.std.proofs.Common.{map}
use Rattle.fz_program.specs.Flat.{labels_of, variable}
use Rattle.fz_text_read.proofs.NameLoops.{SoFar}
use Rattle.fz_text_read.proofs.name_table.NameTable.add_variables.Given as goal

abbrev pub invariant-loop-v : goal.invariant-loop-v
invariant-loop-v l = SoFar l.fn.self l.self (labels_of (map variable l.vars)) l.v-index
