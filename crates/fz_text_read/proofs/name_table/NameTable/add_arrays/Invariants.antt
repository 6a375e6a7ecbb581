use Rattle.std.proofs.Common.{map}
use Rattle.fz_program.specs.Flat.{array_labels, array_item}
use Rattle.fz_text_read.proofs.NameLoops.{SoFar}
use Rattle.fz_text_read.proofs.name_table.NameTable.add_arrays.Given as goal

abbrev pub invariant-loop-a : goal.invariant-loop-a
invariant-loop-a l = SoFar l.fn.self l.self (array_labels (map array_item l.arrays)) l.a-index
