use Rattle.std.proofs.Common.{◌≡◌, ◌++◌, map, drop}
use Rattle.std.specs.List.{flat_map}
use Rattle.mz_core.specs.TreeViews.{decl}
use Rattle.mz_check_meaning.specs.Texts.{in_decl}
use Rattle.mz_check_data.proofs.program.in_decls.Given as goal

abbrev pub invariant-loop-d : goal.invariant-loop-d
invariant-loop-d l = l.fn.out.items ++ flat_map in_decl (map decl l.ds) ≡ l.out.items ++ flat_map in_decl (map decl (drop l.d-index l.ds))
