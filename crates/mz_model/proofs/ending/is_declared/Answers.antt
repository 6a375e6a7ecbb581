use Rattle.std.proofs.Common.{map, subst}
use Rattle.mz_arena.specs.Instances.{model_var}
use Rattle.mz_meaning.specs.Walk.{ordered}
use Rattle.mz_model_meaning.specs.Modeled.{AreVarsOf}
use Rattle.mz_model.specs.Walks.{program_of}
use Rattle.mz_model.proofs.ending.is_declared.Goals as goal

pub returns : goal.returns
returns c h = subst (λ vs. AreVarsOf (ordered (program_of c.args.task.now).decls (program_of c.args.task.now).order) (map model_var vs)) c.deref.ensures.value (c.are_vars_of.ensures h)
