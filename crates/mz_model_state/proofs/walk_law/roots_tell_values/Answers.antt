use Rattle.mz_model_state.proofs.Roots.{place_roots, equal_roots, truth_roots, option_truth_roots, array_roots, line_roots, false_roots, no_roots, constraint_roots}
use Rattle.mz_model_state.proofs.walk_law.roots_tell_values.Goals as goal

pub returns : goal.returns
returns c = record {
  place = place_roots;
  equal = equal_roots;
  truth = truth_roots;
  option_truth = option_truth_roots;
  array = array_roots;
  line = line_roots;
  undefined = false_roots;
  none = no_roots;
  constraint = constraint_roots;
}
