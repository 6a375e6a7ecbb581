-- The commands: what each takes after its name, in the words of `clap`'s definitions.
use Rattle.std.specs.Prelude.{ℕ, Bool, List, [], ◌∷◌, Option, Some, None, true, false, codes, if◌then◌else◌}
use Rattle.clap.specs.Faults.{fault_of}
use Rattle.clap.specs.Kinds.{Kinds}
use Rattle.clap.specs.Simple.{App, matches_of, new_app, new_rule, on_top, with_rule}
use Rattle.clap.specs.Walk.{Row, Rule, Text}
use Rattle.clap.specs.declared.builder.action.ArgAction.TheVariants.{Append, Set}
use Rattle.clap.specs.declared.builder.value_parser.ValueParser.TheVariants.{Unsigned}
use Rattle.mz_words.specs.declared.command.limits.TheConstants.{BUDGET_LIMIT, INT_RANGE_LIMIT, MAKE_LIMIT}

-- the file of the model, which is required
abbrev pub model_rule : Rule
model_rule = record (new_rule (codes "MODEL")) { required = true; action = Some Set }

-- the data files: every further file
abbrev pub data_rule : Rule
data_rule = record (new_rule (codes "DATA")) { action = Some Append }

-- an option whose value is a number from 1 to `limit`: `--name N` or `--name=N`, at most once
abbrev pub number_rule : Text → ℕ → Rule
number_rule name limit = record (new_rule name) {
  long = Some name;
  action = Some Set;
  parser = Some (Unsigned 1 limit);
}

-- a number from 1 to `limit`, which is required
abbrev pub count_rule : ℕ → Rule
count_rule limit = record (new_rule (codes "N")) {
  required = true;
  action = Some Set;
  parser = Some (Unsigned 1 limit);
}

-- a command with no arguments, and with no word for help
abbrev pub bare_command : Text → App
bare_command name = on_top (λ s. record s { disable_help_flag = true }) (new_app name)

-- `NAME MODEL [DATA ..] [--budget N] [--int-range N]`
abbrev pub files_command : Text → App
files_command name =
    with_rule (with_rule (with_rule (with_rule (bare_command name) model_rule) data_rule)
    (number_rule (codes "budget") BUDGET_LIMIT)) (number_rule (codes "int-range") INT_RANGE_LIMIT)

-- `NAME N`
abbrev pub number_command : Text → App
number_command name = with_rule (bare_command name) (count_rule MAKE_LIMIT)

abbrev pub has_any : Kinds → Bool
has_any [] = false
has_any (kind ∷ rest) = true

-- What `clap` finds in the words of a command, of which the first is its name. None where `clap` refuses them: where
-- there is a kind of error for them.
unfoldable pub rows_found : App → List Text → Option (List Row)
rows_found command words = if has_any (fault_of command words) then None else Some (matches_of command words)
