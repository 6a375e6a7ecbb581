use Rattle.std.proofs.Common.{◌∙◌, sym}
use Rattle.mz_arena.specs.Instances.{model_var}
use Rattle.mz_instance.specs.Parts.{var_ids}
use Rattle.cases_instances.proofs.Collected.{mapped_pieces, pieces_end}
use Rattle.cases_instances.proofs.part.ids.Goals as goal

pub returns : goal.returns
returns c = sym (mapped_pieces var_ids model_var c.args.vars.now ∙ c.vars.invariant ∙ pieces_end (λ m. var_ids (model_var m)) c.args.vars.now c.vars.m-index c.vars.all.items c.vars-test.false)
