-- The names in the items of a whole file are of the table that its tokens' names are of, and the places are in their file.
use Rattle.std.proofs.Common.{◌<◌, ◌≡◌, ℕ, List, length}
use Rattle.std.specs.Prelude.{All}
use Rattle.std.proofs.lemmas.List.Elements.{All-weaker}
use Rattle.mz_base.specs.declared.fault.Span.{Span}
use Rattle.mz_lexer.specs.declared.token.Token.{Token}
use Rattle.mz_lexer.specs.Views.{HasName}
use Rattle.mz_tree.specs.Tree.{Name}
use Rattle.mz_tree.specs.Data.{Given}
use Rattle.mz_grammar.specs.Data.{Dimensions}
use Rattle.mz_tree.specs.Named.{IsGivenWithin}
use Rattle.mz_grammar_ebnf.specs.DataSyntax.{DerivesFile}
use Rattle.mz_grammar_ebnf.specs.TokenParts.{OfGiven}
use Rattle.mz_grammar_ebnf.proofs.Holds.{OfToken, known_name, data_items_hold}
use Rattle.mz_dzn.specs.DataFile.{IsGivenIn}

module _ (texts : List (List ℕ)) where
  abbrev Named : Name → Type 0
  Named n = n < length texts

  abbrev Anywhere : Span → Type 0
  Anywhere s = Unit {0}

  pub whole_within : {d : Dimensions} {k : ℕ} {tokens : List Token} {is : List Given} → DerivesFile d k tokens is → All (HasName texts) tokens → All (IsGivenWithin (length texts)) is
  whole_within {tokens = tokens} {is = is} h all = All-weaker (OfGiven Named Anywhere) (IsGivenWithin (length texts)) (λ g p. record { name = p.0; names = p.3 }) is
      (data_items_hold Named Anywhere h (All-weaker (HasName texts) (OfToken Named Anywhere) (λ t n. (known_name texts t.tok n, tt)) tokens all))

module _ (number : ℕ) where
  abbrev Any : Name → Type 0
  Any n = Unit {0}

  abbrev Placed : Span → Type 0
  Placed s = s.file ≡ number

  pub whole_placed : {d : Dimensions} {k : ℕ} {tokens : List Token} {is : List Given} → DerivesFile d k tokens is → All (λ t. t.span.file ≡ number) tokens → All (IsGivenIn number) is
  whole_placed {tokens = tokens} {is = is} h all = All-weaker (OfGiven Any Placed) (IsGivenIn number) (λ g p. record { name = p.1; value = p.2 }) is
      (data_items_hold Any Placed h (All-weaker (λ t. t.span.file ≡ number) (OfToken Any Placed) (λ t at. (λ n e. tt, at)) tokens all))
