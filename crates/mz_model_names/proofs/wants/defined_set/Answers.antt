use Rattle.std.proofs.Common.{Option, sym, subst}
use Rattle.mz_meaning.specs.Walk as walk
use Rattle.mz_eval_cells.specs.Meets.{Tells}
use Rattle.mz_eval_declared.specs.Wants.{wanted}
use Rattle.mz_model_names.proofs.Shapes.{set_seen}
use Rattle.mz_model_names.proofs.wants.defined_set.Goals as goal

pub returns : goal.returns
returns c r = subst (λ o. Tells wanted c.set_of.result (walk.defined_set c.args.at o)) (sym (set_seen r c.args.k.now)) c.set_of.ensures
