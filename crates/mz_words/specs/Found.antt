-- What `clap` finds in the words of a command.
use Rattle.std.specs.Prelude.{◌≡◌, ◌≤◌, ℕ, List, [], Option, Some, None, Result, Ok, Err, IfSome, codes, map, unwrap_or, option_map, String, string_bytes}
use Rattle.std.specs.Str.Parse.{digits_value, without_leading_plus}
use Rattle.clap.specs.Simple.{App}
use Rattle.clap.specs.Walk.{Row, Text, all_of, first_of, texts}
use Rattle.mz_words.specs.Commands.{rows_found}
use Rattle.mz_words.specs.declared.command.error.WordsError.{WordsError}
use Rattle.mz_words.specs.declared.command.error.WordsError.TheVariants.{Usage, Memory}
use Rattle.mz_words.specs.declared.command.limits.TheConstants.{BUDGET_LIMIT, INT_RANGE_LIMIT}
use Rattle.mz_words.specs.declared.command.reading.FileWords.{FileWords}

-- the files of a command, and the options that are given
pub record Words : Type 0 where
  pub model : Text
  pub data_files : List Text
  pub budget : Option ℕ
  pub int_range : Option ℕ

-- the number that a text writes, after its plus if it has one
abbrev pub number_in : Text → ℕ
number_in text = digits_value 10 (without_leading_plus text)

-- the value of an option with a number, where it is given
abbrev pub number_found : Text → List Row → Option ℕ
number_found name rows = option_map number_in (first_of name rows)

-- what `clap` found for a command with files
abbrev pub words_of : List Row → Words
words_of rows = record {
  model = unwrap_or (first_of (codes "MODEL") rows) [];
  data_files = unwrap_or (all_of (codes "DATA") rows) [];
  budget = number_found (codes "budget") rows;
  int_range = number_found (codes "int-range") rows;
}

-- what stands in the words of a command with files; None where `clap` refuses them
abbrev pub words_found : App → List Text → Option Words
words_found command words = option_map words_of (rows_found command words)

-- the number that `clap` found for a command with one, which it requires
abbrev pub count_of : List Row → ℕ
count_of rows = unwrap_or (number_found (codes "N") rows) 1

-- what stands in the words of a command with a number; None where `clap` refuses them
abbrev pub count_found : App → List Text → Option ℕ
count_found command words = option_map count_of (rows_found command words)

-- A value is what was found. Usage comes only where nothing was found. Memory may run out at any words.
abbrev pub Answers : {A B : Type 0} → (A → B) → Option B → Result A WordsError → Type 0
Answers view wanted (Ok value) = wanted ≡ Some (view value)
Answers view wanted (Err Usage) = wanted ≡ None
Answers view wanted (Err Memory) = Unit {0}

abbrev pub text_of : {Z : Type 0} → List (String Z) → List Text
text_of words = map string_bytes words

abbrev pub same_number : ℕ → ℕ
same_number n = n

abbrev pub words_in : FileWords → Words
words_in w = record { model = w.model.now; data_files = texts w.data_files.items; budget = w.budget; int_range = w.int_range }

-- ---- the limits

-- from 1 to `limit`
abbrev pub IsWithin : ℕ → ℕ → Type 0
IsWithin limit n = (1 ≤ n) × (n ≤ limit)

-- the options that are given lie within their limits
pub record HasLimits (w : Words) : Type 0 where
  pub budget : IfSome w.budget (IsWithin BUDGET_LIMIT)
  pub int_range : IfSome w.int_range (IsWithin INT_RANGE_LIMIT)
