-- What the words of a command line ask for.
use Rattle.std.specs.Prelude.{◌≤ℤ◌, ℕ, ℤ, pos, List, [], ◌∷◌, Option, None, codes, if◌then◌else◌, unwrap_or, option_map}
use Rattle.std.specs.Str.{bytes_eq}
use Rattle.clap.specs.Simple.{App}
use Rattle.clap.specs.Walk.{Text, texts}
use Rattle.mz_base.specs.declared.limit.TheConstants.{INTEGER_LIMIT}
use Rattle.mz_words.specs.Commands.{files_command, number_command}
use Rattle.mz_words.specs.Found.{IsWithin, Words, count_found, words_found}
use Rattle.mz_words.specs.declared.command.limits.TheConstants.{BUDGET_LIMIT, MAKE_LIMIT}
use Rattle.mz_words.specs.declared.request.TheConstants.{DEFAULT_BUDGET, DEFAULT_INT_RANGE}
use Rattle.mz_words.specs.declared.request.Options.{Options}
use Rattle.mz_words.specs.declared.request.Request.{Request}
use Rattle.mz_words.specs.declared.request.Request.TheVariants as request

-- the files of a command, and its options
pub record Settings : Type 0 where
  pub model : Text
  pub data_files : List Text
  pub budget : ℕ
  pub int_range : ℤ

-- what words may ask for
pub data Asked : Type 0 where
  compile : Settings → Asked
  check : Settings → Asked
  print : Settings → Asked
  make : ℕ → Asked

-- what words set, with the defaults for the options that aren't given
abbrev pub settings_of : Words → Settings
settings_of words = record {
  model = words.model;
  data_files = words.data_files;
  budget = unwrap_or words.budget DEFAULT_BUDGET;
  int_range = pos (unwrap_or words.int_range DEFAULT_INT_RANGE);
}

-- the settings in the words of a command with files
abbrev pub settings_found : App → List Text → Option Settings
settings_found command words = option_map settings_of (words_found command words)

abbrev pub compile_command : App
compile_command = files_command (codes "compile")

abbrev pub check_command : App
check_command = files_command (codes "check")

abbrev pub print_command : App
print_command = files_command (codes "print")

abbrev pub make_command : App
make_command = number_command (codes "make")

-- the first word is the command's name, and decides which command reads the words
abbrev pub asked_of : Text → List Text → Option Asked
asked_of name words =
    if bytes_eq name (codes "compile") then option_map compile (settings_found compile_command words)
    else (if bytes_eq name (codes "check") then option_map check (settings_found check_command words)
    else (if bytes_eq name (codes "print") then option_map print (settings_found print_command words)
    else (if bytes_eq name (codes "make") then option_map make (count_found make_command words) else None)))

-- what words ask for, and None where they are used wrongly: there is no first word, it is no command, or `clap`
-- refuses the words for that command
unfoldable pub asked : List Text → Option Asked
asked [] = None
asked (name ∷ rest) = asked_of name (name ∷ rest)

abbrev pub settings : Options → Settings
settings o = record { model = o.model.now; data_files = texts o.data_files.items; budget = o.budget; int_range = o.int_range }

abbrev pub request_of : Request → Asked
request_of (request.Compile o) = compile (settings o)
request_of (request.Check o) = check (settings o)
request_of (request.Print o) = print (settings o)
request_of (request.Make n) = make n

-- ---- the limits

pub record IsWithinLimits (s : Settings) : Type 0 where
  pub budget : IsWithin BUDGET_LIMIT s.budget
  pub least_range : pos 1 ≤ℤ s.int_range
  pub greatest_range : s.int_range ≤ℤ INTEGER_LIMIT

abbrev pub AskedWithinLimits : Asked → Type 0
AskedWithinLimits (compile s) = IsWithinLimits s
AskedWithinLimits (check s) = IsWithinLimits s
AskedWithinLimits (print s) = IsWithinLimits s
AskedWithinLimits (make n) = IsWithin MAKE_LIMIT n
