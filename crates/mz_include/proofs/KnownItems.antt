-- The names in the items of a text are of the table that its tokens' names are of, and the places are in its file.
use Rattle.std.proofs.Common.{◌≡◌, ◌<◌, ℕ, List, [], ◌∷◌, length, map, refl}
use Rattle.std.specs.Prelude.{All}
use Rattle.std.proofs.lemmas.List.Elements.{All-nil, All-cons, All-head, All-tail, All-weaker}
use Rattle.mz_base.specs.declared.limit.TheConstants.{OPEN_LIMIT}
use Rattle.mz_base.specs.declared.fault.Span.{Span}
use Rattle.mz_lexer.specs.declared.token.Token.{Token}
use Rattle.mz_lexer.specs.Views.{lex, HasName}
use Rattle.mz_tree.specs.Tree.{Name}
use Rattle.mz_tree.specs.Items.{ItemTree, include, declare, assign, constraint, solve, output, function, enum, annotation}
use Rattle.mz_grammar_ebnf.proofs.Holds.{OfToken, known_name, items_hold}
use Rattle.mz_grammar_ebnf.proofs.ModelMeans.{models_derived}
use Rattle.mz_parser.specs.Model.{IsModel}
use Rattle.mz_include.specs.Trees.{IsItemOf, IsIncludeKnown}
use Rattle.mz_include.specs.Parsing.{AreTokens}
use Rattle.mz_include.proofs.Places.{EachIn, lexed_in}

module _ (names : List (List ℕ)) (turn : ℕ) where
  abbrev Named : Name → Type 0
  Named n = n < length names

  abbrev Placed : Span → Type 0
  Placed s = s.file ≡ turn

  all_hold : (tokens : List Token) → All (HasName names) tokens → EachIn turn (map (lex names) tokens) → All (OfToken Named Placed) tokens
  all_hold [] all at = All-nil (OfToken Named Placed)
  all_hold (t ∷ ts) all at = All-cons (OfToken Named Placed) t ts (known_name names t.tok (All-head (HasName names) t ts all), at.0) (all_hold ts (All-tail (HasName names) t ts all) at.1)

  pub items_of : (text : List ℕ) (tokens : List Token) (items : List ItemTree) → AreTokens names turn text tokens → IsModel tokens items → All (IsItemOf names turn) items
  items_of text tokens items lexed model = items_hold Named Placed (models_derived OPEN_LIMIT tokens items model) (all_hold tokens lexed.known (lexed_in turn lexed.lexes refl))

  pub item_known : (i : ItemTree) → IsItemOf names turn i → IsIncludeKnown names i
  item_known (include n s) h = h.0
  item_known (declare d) h = tt
  item_known (assign n s e) h = tt
  item_known (constraint e) h = tt
  item_known (solve s g) h = tt
  item_known (output e) h = tt
  item_known (function f) h = tt
  item_known (enum n s cs) h = tt
  item_known (annotation n) h = tt

  pub items_known : (text : List ℕ) (tokens : List Token) (items : List ItemTree) → AreTokens names turn text tokens → IsModel tokens items → All (IsIncludeKnown names) items
  items_known text tokens items lexed model = All-weaker (IsItemOf names turn) (IsIncludeKnown names) item_known items (items_of text tokens items lexed model)
