use Rattle.std.proofs.Common.{◌≡◌, map, drop}
use Rattle.std.specs.List.{flat_map}
use Rattle.std.specs.Option.{option_map}
use Rattle.mz_core.specs.TreeViews.{tree, gen, step, item, branch}
use Rattle.mz_model_unbounded.specs.Firsts.{first_place}
use Rattle.mz_model_unbounded.specs.StepsLayers.{in_all, in_sets, in_branch, in_step, in_generator, in_item}
use Rattle.mz_model_unbounded.proofs.walk.+unbounded.Given as goal

abbrev pub invariant-in_form-loop-row : goal.invariant-in_form-loop-row
invariant-in_form-loop-row l = first_place l.fn.found (flat_map in_all (map (λ r. map tree r.items) l.row-items)) ≡ first_place l.found (flat_map in_all (map (λ r. map tree r.items) (drop l.row-index l.row-items)))

abbrev pub invariant-in_all-loop-e : goal.invariant-in_all-loop-e
invariant-in_all-loop-e l = first_place l.fn.found (in_all (map tree l.es)) ≡ first_place l.found (in_all (map tree (drop l.e-index l.es)))

abbrev pub invariant-in_steps-loop-s : goal.invariant-in_steps-loop-s
invariant-in_steps-loop-s l = first_place l.fn.found (flat_map in_step (map step l.steps)) ≡ first_place l.found (flat_map in_step (map step (drop l.s-index l.steps)))

abbrev pub invariant-in_branches-loop-b : goal.invariant-in_branches-loop-b
invariant-in_branches-loop-b l = first_place l.fn.found (flat_map in_branch (map branch l.branches)) ≡ first_place l.found (flat_map in_branch (map branch (drop l.b-index l.branches)))

abbrev pub invariant-in_sets-loop-m : goal.invariant-in_sets-loop-m
invariant-in_sets-loop-m l = first_place l.fn.found (in_sets (map (option_map tree) l.ms)) ≡ first_place l.found (in_sets (map (option_map tree) (drop l.m-index l.ms)))

abbrev pub invariant-in_generators-loop-g : goal.invariant-in_generators-loop-g
invariant-in_generators-loop-g l = first_place l.fn.found (flat_map in_generator (map gen l.gens)) ≡ first_place l.found (flat_map in_generator (map gen (drop l.g-index l.gens)))

abbrev pub invariant-in_items-loop-i : goal.invariant-in_items-loop-i
invariant-in_items-loop-i l = first_place l.fn.found (flat_map in_item (map item l.items)) ≡ first_place l.found (flat_map in_item (map item (drop l.i-index l.items)))
