use Rattle.std.proofs.Common.{map, take}
use Rattle.std.specs.List.{AllByRecursion}
use Rattle.mz_value.specs.Contents.{case_names}
use Rattle.fz_items.specs.Forms.{form}
use Rattle.mz_print.specs.Printable.{IsPrintable}
use Rattle.mz_print.proofs.printable.are_printable.Given as goal

abbrev pub invariant-loop-shape : goal.invariant-loop-shape
invariant-loop-shape l = AllByRecursion (IsPrintable (case_names l.cases)) (map form (take l.shape-index l.shapes))
