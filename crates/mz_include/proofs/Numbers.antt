-- The places in a data file, and of its fault, have the file's number.
use Rattle.std.proofs.Common.{◌≡◌, ℕ, suc, List, [], ◌∷◌, ◌++◌, map, refl, ap, subst, ◌∙◌, arith}
use Rattle.std.specs.Prelude.{All}
use Rattle.std.proofs.lemmas.List.Elements.{All-nil, All-cons}
use Rattle.mz_base.specs.declared.fault.Fault.{Fault}
use Rattle.mz_base.specs.declared.fault.Span.{Span}
use Rattle.mz_base.specs.Faults.{start_of}
use Rattle.mz_io.specs.Files.{Texts}
use Rattle.mz_lexer.specs.declared.token.Token.{Token}
use Rattle.mz_lexer.specs.Views.{lex}
use Rattle.mz_grammar.specs.Tokens.{place_or}
use Rattle.mz_include.specs.Parsing.{AreTokens, end_of}
use Rattle.mz_include.proofs.Places.{EachIn, lexed_in, after_file}
use Rattle.mz_include.specs.DataTexts.{IsUnfitText, by_its_bytes, by_its_tokens}
use Rattle.mz_include.specs.DataFiles.{FailsAsData, missing, too_long, unfit, FailsFirst, here, later, HasDataNumber}

module _ (names : List (List ℕ)) where
  each_in : (turn : ℕ) (tokens : List Token) → EachIn turn (map (lex names) tokens) → All (λ t. t.span.file ≡ turn) tokens
  each_in turn [] all = All-nil (λ t. t.span.file ≡ turn)
  each_in turn (t ∷ ts) all = All-cons (λ t. t.span.file ≡ turn) t ts all.0 (each_in turn ts all.1)

  -- the tokens of a text are in its file
  pub tokens_in : (turn : ℕ) (text : List ℕ) (tokens : List Token) → AreTokens names turn text tokens → All (λ t. t.span.file ≡ turn) tokens
  tokens_in turn text tokens lexed = each_in turn tokens (lexed_in turn lexed.lexes refl)

  token_place : (turn : ℕ) (end : Span) (ts rest : List Token) → EachIn turn (map (lex names) (ts ++ rest)) → end.file ≡ turn → (place_or end rest).file ≡ turn
  token_place turn end [] [] all at = at
  token_place turn end [] (t ∷ rest) all at = all.0
  token_place turn end (t ∷ ts) rest all at = token_place turn end ts rest all.1 at

  unfit_place : (turn : ℕ) (text : List ℕ) (f : Fault) → IsUnfitText names turn text f → f.span.file ≡ turn
  unfit_place turn text f (by_its_bytes h) = lexed_in turn h refl
  unfit_place turn text f (by_its_tokens tokens lexed h) =
      ap (λ (s : Span). s.file) h.place.place
      ∙ token_place turn (end_of turn text) h.place.prefix h.place.rest (subst (λ ts. EachIn turn (map (lex names) ts)) h.place.split (lexed_in turn lexed.lexes refl)) (after_file (start_of turn) text)

  module _ (texts : Texts) where
    fault_place : (turn : ℕ) (name : List ℕ) (f : Fault) → FailsAsData names texts turn name f → f.span.file ≡ turn
    fault_place turn name _ (missing h) = refl
    fault_place turn name _ (too_long h) = refl
    fault_place turn name f (unfit text fetched h) = unfit_place turn text f h

    -- the number in the fault's place is that of the file with the name that is told
    pub failure_there : (turn : ℕ) (given : List (List ℕ)) (f : Fault) (owner : List ℕ) → FailsFirst names texts turn given f owner → HasDataNumber turn given f.span.file owner
    failure_there turn _ f _ (here {name = name} h) = let at = fault_place turn name f h in (0, omega (arith, at), refl)
    failure_there turn _ f owner (later {rest = rest} r h) = let n = failure_there (suc turn) rest f owner h in (suc n.0, omega (arith, n.1), n.2)
