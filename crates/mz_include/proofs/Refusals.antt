-- What reading one data file answers where it fails.
use Rattle.std.proofs.Common.{◌≡◌, ℕ, List, [], map, sym, ap, subst, ◌∙◌}
use Rattle.std.specs.Prelude.{Err}
use Rattle.mz_base.specs.declared.fault.Fault.{Fault}
use Rattle.mz_base.specs.declared.fault.Span.{Span}
use Rattle.mz_base.specs.declared.kind.Kind.TheVariants.{Syntax}
use Rattle.mz_base.specs.declared.limit.TheConstants.{OPEN_LIMIT}
use Rattle.mz_base.specs.declared.stop.Stop.{Stop}
use Rattle.mz_base.specs.declared.stop.Stop.TheVariants.{Refused, Memory}
use Rattle.mz_base.specs.Faults.{IfRefused}
use Rattle.mz_lexer.specs.declared.token.Token.{Token}
use Rattle.mz_tree.specs.declared.data.Data.{Data}
use Rattle.mz_tree.specs.Data.{given}
use Rattle.mz_grammar.specs.RulesPromise.{Answers, IsFault, fault_of, reason_of}
use Rattle.mz_grammar.specs.Data.{rule, dimensions_of, file}
use Rattle.mz_dzn.specs.DataFile.{IsRefusedData}
use Rattle.mz_include.specs.Parsing as parsing
use Rattle.mz_include.proofs.FaultKinds.{IsOfText, unparsed_kind}
use Rattle.mz_include.specs.DataTexts.{IsUnfitText, by_its_bytes, by_its_tokens}

-- what parsing answers where it stops
pub refused_data : (names : List (List ℕ)) (end : Span) (tokens : List Token) (stop : Stop) → Answers rule {X = Data} (file (dimensions_of names)) (λ d. map given d.items.items) OPEN_LIMIT end tokens [] (Err stop) → IfRefused stop (λ f. f.kind ≡ Syntax) → IfRefused stop (IsRefusedData names end tokens)
refused_data names end tokens Memory h k = tt
refused_data names end tokens (Refused f) h k = record {
  kind = h.0 ∙ ap (λ kind. fault_of (reason_of kind) f.span) k;
  place = subst (λ kind. IsFault rule (file (dimensions_of names)) OPEN_LIMIT (reason_of kind) end tokens f.span) k h.1;
}

-- the kind of a text's fault is none of a file that can't be fetched
pub unfit_kind : (names : List (List ℕ)) (turn : ℕ) (text : List ℕ) (f : Fault) → IsUnfitText names turn text f → IsOfText f.kind
unfit_kind names turn text f (by_its_bytes h) = unparsed_kind {names = names} {turn = turn} {text = text} (parsing.by_its_bytes h)
unfit_kind names turn text f (by_its_tokens tokens lexed h) = subst IsOfText (sym (ap (λ (g : Fault). g.kind) h.kind)) tt
