-- The names that the declarations of a model's files give are identifiers, as the words of identifier tokens are.
use Rattle.std.proofs.Common.{◌≡◌, ℕ, List, [], ◌∷◌, ◌++◌, Bool, true, length, map, refl, sym, ap, subst}
use Rattle.std.specs.Prelude.{Ok, Err, All, Contains}
use Rattle.std.specs.List.{flat_map}
use Rattle.std.proofs.lemmas.List.Elements.{All-nil, All-cons, All-head, All-tail, All-append, All-contains, All-weaker, All-same}
use Rattle.mz_base.specs.declared.fault.Span.{Span}
use Rattle.mz_base.specs.declared.limit.TheConstants.{OPEN_LIMIT}
use Rattle.mz_base.specs.Names.{text_of}
use Rattle.mz_base.specs.Words.{is_identifier}
use Rattle.mz_io.specs.Files.{Texts}
use Rattle.mz_lexer.specs.declared.opening.Opening.{Opening}
use Rattle.mz_lexer.specs.declared.token.Token.{Token}
use Rattle.mz_lexer.specs.declared.token.Tok.TheVariants.{Ident}
use Rattle.mz_lexer.specs.Lexemes.{Lexeme, ident, Lex, Outcome, with_token}
use Rattle.mz_lexer.specs.Lexes.{Spells, Lexed, no_bytes, a_blank, a_line_comment, a_comment, a_token, left_out, past_limit, nothing_begins, in_a_text}
use Rattle.mz_lexer.specs.Views.{lexeme, lex}
use Rattle.mz_lexer.proofs.Identifiers.{identifiers_are_flat}
use Rattle.mz_tree.specs.Tree.{declaration}
use Rattle.mz_tree.specs.Items.{ItemTree, include, declare, assign, constraint, solve, output, function, enum, annotation}
use Rattle.mz_grammar_ebnf.specs.TokenParts.{DeclaresIdentifier}
use Rattle.mz_grammar_ebnf.proofs.Holds.{declarations_identified}
use Rattle.mz_grammar_ebnf.proofs.ModelMeans.{models_derived}
use Rattle.mz_include.specs.Trees.{DeclaresSpelled}
use Rattle.mz_include.specs.Naming.{File}
use Rattle.mz_include.specs.Parsing.{IsParsed}
use Rattle.mz_include.specs.Sources.{AreRead, none_yet, one_more, IsSources}
use Rattle.mz_include.proofs.Later.{flat_map_push}

-- ---- the words of a file's identifier tokens

abbrev IsSpelled : Lexeme → Type 0
IsSpelled (ident w) = is_identifier w ≡ true
IsSpelled _ = Unit {0}

abbrev EachSpelled : List Lex → Type 0
EachSpelled [] = Unit {0}
EachSpelled (t ∷ ts) = IsSpelled t.lexeme × EachSpelled ts

abbrev AllSpelled : Outcome → Type 0
AllSpelled (Ok ts) = EachSpelled ts
AllSpelled (Err f) = Unit {0}

lexeme_spelled : (later : Bool) (w : List ℕ) (x : Lexeme) → Spells later w x → IsSpelled x
lexeme_spelled later w (ident v) h = identifiers_are_flat later w v h
lexeme_spelled later w _ h = tt

behind_token : (t : Lex) (out : Outcome) → IsSpelled t.lexeme → AllSpelled out → AllSpelled (with_token t out)
behind_token t (Ok ts) one h = (one, h)
behind_token t (Err f) one h = tt

lexed_spelled : {opens : List Opening} {at : Span} {bs : List ℕ} {out : Outcome} → Lexed opens at bs out → AllSpelled out
lexed_spelled no_bytes = tt
lexed_spelled (a_blank e r) = lexed_spelled r
lexed_spelled (a_line_comment c e g r) = lexed_spelled r
lexed_spelled (a_comment c e r) = lexed_spelled r
lexed_spelled (a_token w {x = x} {out = out} s l i n r) = behind_token _ out (lexeme_spelled _ w x s) (lexed_spelled r)
lexed_spelled (left_out g) = tt
lexed_spelled (past_limit w bs n s l i o) = tt
lexed_spelled (nothing_begins g) = tt
lexed_spelled (in_a_text c bs e g s) = tt

-- ---- the names of declarations

module _ (names : List (List ℕ)) where
  abbrev Seen : Token → Type 0
  Seen t = IsSpelled (lexeme names t.tok)

  each_seen : (tokens : List Token) → EachSpelled (map (lex names) tokens) → All Seen tokens
  each_seen [] h = All-nil Seen
  each_seen (t ∷ ts) h = All-cons Seen t ts h.0 (each_seen ts h.1)

  item_spelled : (tokens : List Token) → All Seen tokens → (i : ItemTree) → DeclaresIdentifier tokens i → DeclaresSpelled names i
  item_spelled tokens seen (declare (declaration t n s e)) h = subst (λ k. IsSpelled (lexeme names k)) h.2 (All-contains Seen tokens h.0 seen h.1)
  item_spelled tokens seen (include m s) h = tt
  item_spelled tokens seen (assign m s e) h = tt
  item_spelled tokens seen (constraint e) h = tt
  item_spelled tokens seen (solve s g) h = tt
  item_spelled tokens seen (output e) h = tt
  item_spelled tokens seen (function f) h = tt
  item_spelled tokens seen (enum m s cs) h = tt
  item_spelled tokens seen (annotation m) h = tt

  file_spelled : (turn : ℕ) (text : List ℕ) (file : File) → IsParsed names turn text file → All (DeclaresSpelled names) file.items
  file_spelled turn text file h =
      All-weaker (DeclaresIdentifier h.tokens) (DeclaresSpelled names) (item_spelled h.tokens (each_seen h.tokens (lexed_spelled h.lexed.lexes))) file.items
      (declarations_identified OPEN_LIMIT h.tokens file.items (models_derived OPEN_LIMIT h.tokens file.items h.model))

  files_spelled : (texts : Texts) (first : List ℕ) (files : List File) → AreRead names texts first files → All (DeclaresSpelled names) (flat_map (λ f. f.items) files)
  files_spelled texts first _ none_yet = All-nil (DeclaresSpelled names)
  files_spelled texts first _ (one_more {files = files} {file = file} r n h) =
      All-same (DeclaresSpelled names) (flat_map (λ f. f.items) (files ++ file ∷ [])) (flat_map (λ f. f.items) files ++ file.items) (flat_map_push (λ f. f.items) files file)
      (All-append (DeclaresSpelled names) (flat_map (λ f. f.items) files) file.items (files_spelled texts first files r) (file_spelled (length files) h.text file h.parsed))

pub sources_spelled : (names : List (List ℕ)) (texts : Texts) (first : List ℕ) (files : List File) → IsSources names texts first files → All (DeclaresSpelled names) (flat_map (λ f. f.items) files)
sources_spelled names texts first files h = files_spelled names texts first files h.read
