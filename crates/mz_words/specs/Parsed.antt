-- What a parse of `clap` gives; private clauses only.
use Rattle.std.specs.Prelude.{◌≡◌, ℕ, List, [], ◌∷◌, Some, true, codes}
use Rattle.std.specs.Str.{bytes_eq}
use Rattle.clap.specs.Faults.{is_simple_and_free}
use Rattle.clap.specs.Matches.{found_of}
use Rattle.clap.specs.Simple.{App, built, is_buildable, is_simple}
use Rattle.clap.specs.Values.{IsUnsignedIn}
use Rattle.clap.specs.Walk.{Row, Rule, Text, first_of, rows_of}
use Rattle.clap.specs.declared.builder.value_parser.ValueParser.TheVariants.{Unsigned}
use Rattle.clap.specs.declared.error.kind.ErrorKind.{ErrorKind}
use Rattle.clap.specs.declared.error.kind.ErrorKind.TheVariants.{OutOfMemory}
use Rattle.clap.specs.declared.parser.matches.ArgMatches.{ArgMatches}
use Rattle.mz_words.specs.declared.command.limits.TheConstants.{BUDGET_LIMIT, INT_RANGE_LIMIT, MAKE_LIMIT}
use Rattle.mz_words.specs.declared.command.error.WordsError.{WordsError}
use Rattle.mz_words.specs.declared.command.error.WordsError.TheVariants.{Usage, Memory}

-- `clap` tells exactly what it finds in the words of this command, and which words it refuses
pub record IsExact (command : App) : Type 0 where
  pub free : is_simple_and_free command ≡ true
  pub simple : is_simple command ≡ true
  pub buildable : is_buildable command ≡ true
  pub plain : command.top.is_plain ≡ true
  pub plain_built : (built command).top.is_plain ≡ true

-- the rule, if it is the argument's of this name, takes numbers from 1 to `limit`
abbrev pub IsNumberRule : Text → ℕ → Rule → Type 0
IsNumberRule name limit rule = bytes_eq rule.id name ≡ true → rule.parser ≡ Some (Unsigned 1 limit)

abbrev pub AreNumberRules : Text → ℕ → List Rule → Type 0
AreNumberRules name limit [] = Unit {0}
AreNumberRules name limit (rule ∷ rest) = IsNumberRule name limit rule × AreNumberRules name limit rest

-- the option of this name takes numbers from 1 to `limit`, in the command as it was made and as `clap` builds it
pub record TakesNumbers (name : Text) (limit : ℕ) (command : App) : Type 0 where
  pub named : name ≡ [] → ⊥
  pub rules : AreNumberRules name limit command.top.rules
  pub rules_built : AreNumberRules name limit (built command).top.rules

-- the value of the option, where it is given, is a number from 1 to `limit`
abbrev pub IsNumber : Text → ℕ → List Row → Type 0
IsNumber name limit rows = (text : Text) → first_of name rows ≡ Some text → IsUnsignedIn 1 limit text

abbrev pub AreNumbers : App → List Row → Type 0
AreNumbers command rows = (name : Text) (limit : ℕ) → TakesNumbers name limit command → IsNumber name limit rows

-- the values of the options of a command with files
pub record HasNumbers (rows : List Row) : Type 0 where
  pub budget : IsNumber (codes "budget") BUDGET_LIMIT rows
  pub int_range : IsNumber (codes "int-range") INT_RANGE_LIMIT rows

-- the value of a command with a number
abbrev pub HasCount : List Row → Type 0
HasCount rows = IsNumber (codes "N") MAKE_LIMIT rows

-- what `clap` found
abbrev pub rows_in : ArgMatches → List Row
rows_in matches = rows_of (found_of matches)

-- what comes of an error of `clap`
abbrev pub refusal_of : ErrorKind → WordsError
refusal_of OutOfMemory = Memory
refusal_of _ = Usage
