-- The kinds of a text's faults, which are none of a file that can't be fetched.
use Rattle.std.proofs.Common.{◌≡◌, ℕ, List, sym, subst, ap}
use Rattle.std.specs.Prelude.{Result, Ok, Err, IfErr, IsErrAnd}
use Rattle.mz_base.specs.declared.fault.Fault.{Fault}
use Rattle.mz_base.specs.declared.fault.Span.{Span}
use Rattle.mz_base.specs.declared.kind.Kind.{Kind}
use Rattle.mz_base.specs.declared.kind.Kind.TheVariants.{MissingFile, TooLong}
use Rattle.mz_base.specs.declared.stop.Stop.{Stop}
use Rattle.mz_base.specs.declared.stop.Stop.TheVariants.{Refused, Memory}
use Rattle.mz_io.specs.Files.{FileCounts}
use Rattle.mz_lexer.specs.declared.opening.Opening.{Opening}
use Rattle.mz_lexer.specs.Lexemes.{Lex, Outcome, with_token}
use Rattle.mz_lexer.specs.Lexes.{Lexed, no_bytes, a_blank, a_line_comment, a_comment, a_token, left_out, past_limit, nothing_begins, in_a_text}
use Rattle.mz_base.specs.Faults.{IfRefused as IfStopped}
use Rattle.mz_grammar.specs.Rules.{Reason, syntax, left_out as is_left_out, too_deep}
use Rattle.mz_grammar.specs.RulesPromise.{kind_of, reason_of}
use Rattle.mz_lexer.specs.declared.token.Token.{Token}
use Rattle.mz_parser.specs.Model.{IsItems, IsRefused}
use Rattle.mz_include.specs.Parsing.{IsUnparsed, by_its_bytes, by_its_tokens}
use Rattle.mz_include.specs.Ends.{CountsRefusal}

-- a kind that a text has
abbrev pub IsOfText : Kind → Type 0
IsOfText MissingFile = ⊥
IsOfText TooLong = ⊥
IsOfText _ = Unit {0}

abbrev HasKind : Outcome → Type 0
HasKind (Ok ts) = Unit {0}
HasKind (Err f) = IsOfText f.kind

behind_token : (t : Lex) (out : Outcome) → HasKind out → HasKind (with_token t out)
behind_token t (Ok ts) h = tt
behind_token t (Err f) h = h

lexed_kind : {opens : List Opening} {at : Span} {bs : List ℕ} {out : Outcome} → Lexed opens at bs out → HasKind out
lexed_kind no_bytes = tt
lexed_kind (a_blank e r) = lexed_kind r
lexed_kind (a_line_comment c e h r) = lexed_kind r
lexed_kind (a_comment c e r) = lexed_kind r
lexed_kind (a_token w {out = out} s l i n r) = behind_token _ out (lexed_kind r)
lexed_kind (left_out h) = tt
lexed_kind (past_limit w bs n s l i o) = tt
lexed_kind (nothing_begins h) = tt
lexed_kind (in_a_text c bs e h s) = tt

reason_kind : (why : Reason) → IsOfText (kind_of why)
reason_kind syntax = tt
reason_kind is_left_out = tt
reason_kind too_deep = tt

pub unparsed_kind : {names : List (List ℕ)} {turn : ℕ} {text : List ℕ} {f : Fault} → IsUnparsed names turn text f → IsOfText f.kind
unparsed_kind (by_its_bytes lexed) = lexed_kind lexed
unparsed_kind (by_its_tokens {f = f} tokens lexed refused) = subst IsOfText (sym (ap (λ (g : Fault). g.kind) refused.0)) (reason_kind (reason_of f.kind))

-- such a fault raises no count of the files
pub text_counted : (kind : Kind) (old new : FileCounts) → IsOfText kind → new ≡ old → CountsRefusal kind old new
text_counted MissingFile old new h e = absurd h
text_counted TooLong old new h e = absurd h
text_counted _ old new h e = e

-- a stage stops for the reason for which its part stopped
pub stop_then : {X : Type 0} (P Q : Fault → Type 0) (r : Result X Stop) (s : Stop) → IsErrAnd r (λ e. e ≡ s) → ((f : Fault) → P f → Q f) → IfStopped s P → IfErr r (λ e. IfStopped e Q)
stop_then P Q (Ok x) s e step h = tt
stop_then P Q (Err d) (Refused f) e step h = rw e (step f h)
stop_then P Q (Err d) Memory e step h = rw e tt

-- what parsing answers where it stops
pub refused_stop : (X : Type 0) (end : Span) (tokens : List Token) (s : Stop) → IsItems {Z = X} end tokens (Err s) → IfStopped s (IsRefused end tokens)
refused_stop X end tokens (Refused f) h = h
refused_stop X end tokens Memory h = tt
