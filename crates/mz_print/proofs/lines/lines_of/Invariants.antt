use Rattle.std.proofs.Common.{◌≡◌, ◌++◌, map, drop}
use Rattle.mz_core.specs.TreeViews.{decl}
use Rattle.mz_print.specs.Lines.{lines_of}
use Rattle.mz_print.proofs.lines.lines_of.Given as goal

abbrev pub invariant-loop-d : goal.invariant-loop-d
invariant-loop-d l = lines_of l.slots (map decl l.decls) ≡ l.lines.items ++ lines_of l.slots (map decl (drop l.d-index l.decls))
