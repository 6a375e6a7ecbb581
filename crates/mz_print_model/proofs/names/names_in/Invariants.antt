use Rattle.std.proofs.Common.{map, drop}
use Rattle.mz_core.specs.TreeViews.{decl}
use Rattle.mz_arena.specs.Instances.{par_value}
use Rattle.mz_print.specs.Names.{top_names}
use Rattle.mz_print_model.specs.StepsNames.{AreNamesSoFar}
use Rattle.mz_print_model.proofs.names.names_in.Given as goal

abbrev pub invariant-loop-k : goal.invariant-loop-k
invariant-loop-k l = AreNamesSoFar (map decl l.decls) (map par_value l.pars) l.all (drop l.k-index l.all) l.at (top_names l.names.items)
