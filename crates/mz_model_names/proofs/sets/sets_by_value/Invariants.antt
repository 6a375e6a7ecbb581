use Rattle.std.proofs.Common.{◌≡◌, ◌++◌, map, drop}
use Rattle.mz_core.specs.Types.{plain_type}
use Rattle.mz_meaning.specs.Domains.{domain_over}
use Rattle.mz_meaning.specs.Walk.{domain_by_value}
use Rattle.mz_eval_cells.specs.Views.{known_bound}
use Rattle.mz_eval_declared.specs.Wants.{wanted}
use Rattle.mz_model_names.proofs.sets.sets_by_value.Given as goal

abbrev pub invariant-loop-b : goal.invariant-loop-b
invariant-loop-b l = map (domain_by_value (plain_type l.t) (wanted l.w)) (map known_bound l.all) ≡ map (domain_over (plain_type l.t)) l.sets.items ++ map (domain_by_value (plain_type l.t) (wanted l.w)) (map known_bound (drop l.b-index l.all))
