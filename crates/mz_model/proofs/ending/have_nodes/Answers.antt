use Rattle.std.proofs.Common.{map, subst}
use Rattle.mz_model_state.specs.Hands.{AreVars}
use Rattle.mz_model_names.specs.Named.{held_name}
use Rattle.mz_model.proofs.ending.have_nodes.Goals as goal

pub returns : goal.returns
returns c = subst (λ hs. AreVars c.args.run.now (map held_name hs)) c.deref.ensures.value c.in_ok-are_placed.ensures
