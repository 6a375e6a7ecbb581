use Rattle.std.proofs.Common.{[], map, drop}
use Rattle.std.specs.Option.{option_map}
use Rattle.mz_core.specs.TreeViews.{tree}
use Rattle.mz_meaning.specs.Contexts.{Positive}
use Rattle.mz_meaning.specs.Evaluation.{eval}
use Rattle.mz_meaning.specs.Runs.{loop}
use Rattle.mz_meaning.specs.Walk.{levels, one_index}
use Rattle.mz_symbol.specs.Makes.{Continues}
use Rattle.mz_model_names.specs.Formed.{wants_of}
use Rattle.mz_eval_scopes.specs.Seen.{world_seen}
use Rattle.mz_model.proofs.forms.index_wants.Given as goal

abbrev pub invariant-loop-e : goal.invariant-loop-e
invariant-loop-e l = Continues l.fn.run l.run
    (λ r. loop (one_index (eval (world_seen r l.world) levels) Positive (world_seen r l.world).top) [] (map (option_map tree) l.all))
    (λ r. loop (one_index (eval (world_seen r l.world) levels) Positive (world_seen r l.world).top) (wants_of l.wants.items) (map (option_map tree) (drop l.e-index l.all)))
