use Rattle.std.proofs.Common.{Option, sym, subst}
use Rattle.mz_meaning.specs.Walk as walk
use Rattle.mz_eval_cells.specs.Meets.{Tells}
use Rattle.mz_eval_declared.specs.Wants.{wanted}
use Rattle.mz_model_names.proofs.Shapes.{set_seen}
use Rattle.mz_model_names.proofs.wants.defined_index.Goals as goal

pub returns : goal.returns
returns c r = subst (λ o. Tells wanted c.index_of.result (walk.defined_index c.args.at o)) (sym (set_seen r c.args.k.now)) c.index_of.ensures
