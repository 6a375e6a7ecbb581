use Rattle.std.proofs.Common.{◌∙◌, sym, map}
use Rattle.mz_arena.specs.Instances.{model_var}
use Rattle.mz_instance.specs.Parts.{var_parts}
use Rattle.cases_instances.specs.Seen.{part}
use Rattle.cases_instances.proofs.Collected.{mapped_pieces, pieces_end}
use Rattle.cases_instances.proofs.part.parts.Goals as goal

pub returns : goal.returns
returns c = sym (mapped_pieces var_parts model_var c.args.vars.now ∙ c.vars.invariant ∙ pieces_end (λ m. var_parts (model_var m)) c.args.vars.now c.vars.m-index (map part c.vars.all.items) c.vars-test.false)
