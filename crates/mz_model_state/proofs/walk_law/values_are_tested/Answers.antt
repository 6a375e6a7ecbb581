use Rattle.mz_model_state.proofs.Tests.{numbers_tested, sets_tested, truths_tested, guarded_truths_tested, options_tested, symbols_tested, truths_there}
use Rattle.mz_model_state.proofs.walk_law.values_are_tested.Goals as goal

pub returns : goal.returns
returns c = record {
  numbers = numbers_tested;
  sets = sets_tested;
  truths = truths_tested;
  guarded = guarded_truths_tested;
  options = options_tested;
  symbols = symbols_tested;
  there = truths_there;
}
