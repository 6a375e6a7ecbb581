-- The commands take numbers for their options.
use Rattle.std.proofs.Common.{◌≡◌, List, codes, true, false, refl, sym, true≢false}
use Rattle.clap.specs.Walk.{Row, Text}
use Rattle.mz_words.specs.Commands.{files_command, number_command}
use Rattle.mz_words.specs.Parsed.{AreNumbers, HasCount, HasNumbers, TakesNumbers}
use Rattle.mz_words.specs.declared.command.limits.TheConstants.{BUDGET_LIMIT, INT_RANGE_LIMIT, MAKE_LIMIT}

other : {A : Type 0} → false ≡ true → A
other is = absurd (true≢false (sym is))

takes_budget : (name : Text) → TakesNumbers (codes "budget") BUDGET_LIMIT (files_command name)
takes_budget name = record {
  named = λ empty. cc;
  rules = (other, (other, ((λ same. refl), (other, tt))));
  rules_built = (other, (other, ((λ same. refl), (other, tt))));
}

takes_int_range : (name : Text) → TakesNumbers (codes "int-range") INT_RANGE_LIMIT (files_command name)
takes_int_range name = record {
  named = λ empty. cc;
  rules = (other, (other, (other, ((λ same. refl), tt))));
  rules_built = (other, (other, (other, ((λ same. refl), tt))));
}

pub has_numbers : (name : Text) (rows : List Row) → AreNumbers (files_command name) rows → HasNumbers rows
has_numbers name rows numbers = record {
  budget = numbers (codes "budget") BUDGET_LIMIT (takes_budget name);
  int_range = numbers (codes "int-range") INT_RANGE_LIMIT (takes_int_range name);
}

takes_count : (name : Text) → TakesNumbers (codes "N") MAKE_LIMIT (number_command name)
takes_count name = record {
  named = λ empty. cc;
  rules = ((λ same. refl), tt);
  rules_built = ((λ same. refl), tt);
}

pub has_count : (name : Text) (rows : List Row) → AreNumbers (number_command name) rows → HasCount rows
has_count name rows numbers = numbers (codes "N") MAKE_LIMIT (takes_count name)
