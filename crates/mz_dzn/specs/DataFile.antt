-- What the tokens of a data file are read to, and where they are refused, by the table of their names.
use Rattle.std.specs.Prelude.{◌≡◌, ℕ, List}
use Rattle.mz_base.specs.declared.limit.TheConstants.{OPEN_LIMIT}
use Rattle.mz_base.specs.declared.fault.Span.{Span}
use Rattle.mz_base.specs.declared.fault.Fault.{Fault}
use Rattle.mz_base.specs.declared.kind.Kind.TheVariants.{Syntax}
use Rattle.mz_base.specs.Faults.{fault_at}
use Rattle.mz_lexer.specs.declared.token.Token.{Token}
use Rattle.mz_tree.specs.Data.{Given}
use Rattle.mz_grammar.specs.Rules.{syntax}
use Rattle.mz_grammar.specs.RulesPromise.{IsWithin, IsUnfit}
use Rattle.mz_grammar.specs.Data.{rule, dimensions_of, file}
use Rattle.mz_grammar_ebnf.specs.DataSyntax.{DerivesFile}

-- these are the items of a data file with these tokens
abbrev pub IsDataFile : List (List ℕ) → List Token → List Given → Type 0
IsDataFile names tokens items = IsWithin rule (file (dimensions_of names)) OPEN_LIMIT tokens items

-- the lines of the EBNF derive no data file with these tokens, of which at most OPEN_LIMIT are open at once
abbrev pub IsNoDataFile : List (List ℕ) → List Token → Type 0
IsNoDataFile names tokens = (items : List Given) → DerivesFile (dimensions_of names) OPEN_LIMIT tokens items → ⊥

-- no data file begins with the tokens up to this place, and one begins with those before it
pub record IsRefusedData (names : List (List ℕ)) (end : Span) (tokens : List Token) (f : Fault) : Type 0 where
  pub kind : f ≡ fault_at Syntax f.span
  pub place : IsUnfit rule (file (dimensions_of names)) OPEN_LIMIT syntax end tokens f.span

-- the places of an item are in the file of this number
pub record IsGivenIn (number : ℕ) (g : Given) : Type 0 where
  pub name : g.span.file ≡ number
  pub value : g.at.file ≡ number
