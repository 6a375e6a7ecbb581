-- What is promised of a model's file.
use Rattle.std.specs.Prelude.{◌≡◌, ℕ, List}
use Rattle.mz_lexer.specs.declared.token.Token.{Token}
use Rattle.mz_tree.specs.Items.{ItemTree}
use Rattle.mz_tree.specs.Data.{Given}
use Rattle.mz_grammar.specs.RulesPromise.{IsWithin}
use Rattle.mz_grammar.specs.Parts.{file}
use Rattle.mz_grammar.specs.Model.{rule}
use Rattle.mz_grammar.specs.Data as of_data

-- The tokens are a file with these items, whatever is open at once.
abbrev pub IsFile : List Token → List ItemTree → Type 0
IsFile tokens items = (room : ℕ) × IsWithin rule file room tokens items

abbrev pub HasOneReading : Type 0
HasOneReading = (tokens : List Token) (items others : List ItemTree) → IsFile tokens items → IsFile tokens others → items ≡ others

-- The tokens are a data file with these items, where the table of names tells the array calls.
abbrev pub IsDataFile : of_data.Dimensions → List Token → List Given → Type 0
IsDataFile dimensions tokens items = (room : ℕ) × IsWithin of_data.rule (of_data.file dimensions) room tokens items

abbrev pub HasOneDataReading : Type 0
HasOneDataReading = (dimensions : of_data.Dimensions) (tokens : List Token) (items others : List Given) → IsDataFile dimensions tokens items → IsDataFile dimensions tokens others → items ≡ others
