use Rattle.std.proofs.Common.{map, drop}
use Rattle.mz_core.specs.TreeViews.{decl}
use Rattle.mz_arena.specs.Instances.{model_var}
use Rattle.mz_model.specs.Matching.{AreVarsFrom}
use Rattle.mz_model.proofs.matching.are_vars_in.Given as goal

abbrev pub invariant-loop-k : goal.invariant-loop-k
invariant-loop-k l = AreVarsFrom (map decl l.decls) (map model_var l.vars) l.all (drop l.k-index l.all) l.at
