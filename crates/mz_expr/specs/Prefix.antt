-- What is promised of annotations, whose value is dropped.
use Rattle.std.specs.Prelude.{◌≡◌, ℕ, List, Result, Ok, Err}
use Rattle.mz_base.specs.declared.fault.Span.{Span}
use Rattle.mz_base.specs.declared.stop.Stop.{Stop}
use Rattle.mz_base.specs.declared.stop.Stop.TheVariants.{Refused, Memory}
use Rattle.mz_lexer.specs.declared.token.Token.{Token}
use Rattle.mz_grammar.specs.RulesPromise.{IsLongestPrefix, IsFault, fault_of, reason_of}
use Rattle.mz_grammar.specs.Parts.{annotations, Value}
use Rattle.mz_grammar.specs.Model.{rule}

-- what a call answered that passes annotations at the beginning of old, where this many tokens more may be opened
abbrev pub PassesAnnotations : ℕ → Span → List Token → List Token → Result (Unit {0}) Stop → Type 0
PassesAnnotations room end old new (Ok u) = (annotated : Value annotations) × IsLongestPrefix rule annotations room old new annotated
PassesAnnotations room end old new (Err Memory) = Unit {0}
PassesAnnotations room end old new (Err (Refused f)) = (f ≡ fault_of (reason_of f.kind) f.span) × IsFault rule annotations room (reason_of f.kind) end old f.span
