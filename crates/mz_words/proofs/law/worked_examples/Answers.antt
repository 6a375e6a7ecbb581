use Rattle.std.proofs.Common.{refl}
use Rattle.clap.proofs.OnLiterals.{clap_on_literals}
use Rattle.mz_words.specs.Commands.{rows_found}
use Rattle.mz_words.specs.Examples.{Examples, words}
use Rattle.mz_words.specs.Requests.{asked}
use Rattle.mz_words.proofs.law.worked_examples.Goals as goal

examples : Examples
unfolding clap_on_literals rows_found asked words
examples = record {
  compile_alone = refl;
  check_alone = refl;
  options_anywhere = refl;
  greatest = refl;
  plus_and_zeros = refl;
  dashes = refl;
  dash_is_a_file = refl;
  empty_is_a_file = refl;
  help_is_a_file = refl;
  no_words = refl;
  no_command = refl;
  prefix_of_a_command = refl;
  no_model = refl;
  options_alone = refl;
  given_twice = refl;
  zero_budget = refl;
  past_budget = refl;
  zero_range = refl;
  past_range = refl;
  minus = refl;
  minus_word = refl;
  no_value = refl;
  empty_value = refl;
  dashes_for_a_value = refl;
  abbreviation = refl;
  short_option = refl;
  help_option = refl;
  print_alone = refl;
  print_with_data = refl;
  print_nothing = refl;
  print_zero_budget = refl;
  make_least = refl;
  make_greatest = refl;
  make_plus = refl;
  make_zeros = refl;
  make_after_dashes = refl;
  make_nothing = refl;
  make_zero = refl;
  make_past = refl;
  make_twice = refl;
  make_option = refl;
  make_minus = refl;
  make_word = refl;
}

pub returns : goal.returns
returns c = examples
