-- What a call of a global on values answers.
use Rattle.std.specs.Prelude.{◌≡◌, pos, map, Option, Result, Ok, Err}
use Rattle.std.specs.Option.{option_map}
use Rattle.mz_base.specs.declared.fault.Span.{Span}
use Rattle.mz_base.specs.declared.fault.Fault.{Fault}
use Rattle.mz_base.specs.declared.kind.Kind.TheVariants as kind
use Rattle.mz_base.specs.declared.stop.Stop.{Stop}
use Rattle.mz_base.specs.declared.stop.Stop.TheVariants.{Refused, Memory}
use Rattle.mz_value.specs.declared.value.Value.{Value}
use Rattle.mz_value.specs.Contents.{content}
use Rattle.mz_operations.specs.Arguments.{Arguments}
use Rattle.mz_operations.specs.Answers.{Answer, Gives, Stops}
use Rattle.mz_globals.specs.declared.global.Global.{Global}
use Rattle.mz_globals.specs.declared.checks.Refusal.{Refusal}
use Rattle.mz_globals.specs.declared.checks.Refusal.TheVariants.{Misfit, Negative, Outside}
use Rattle.mz_globals.specs.Givens.{given_of}
use Rattle.mz_globals.specs.Table.{refusal_of}

-- a result that is an answer of the definitions, at a place
abbrev pub Answers : Result (Option Value) Stop → Span → Answer → Type 0
Answers (Ok v) at a = a ≡ Gives (option_map content v)
Answers (Err (Refused f)) at a = (a ≡ Stops f.kind f.number) × (f.span ≡ at)
Answers (Err Memory) at a = Unit {0}

-- ---- mirror of src/applied.rt; private clauses only

abbrev pub refusal_on : Global → Arguments → Option Refusal
refusal_on g args = refusal_of g (map given_of args)

abbrev pub answer_of : Refusal → Answer
answer_of Misfit = Stops kind.IndexMismatch (pos 0)
answer_of (Negative n) = Stops kind.NegativeArgument n
answer_of (Outside n) = Stops kind.Bounds n

pub record IsFault (f : Fault) (r : Refusal) (at : Span) : Type 0 where
  pub answer : answer_of r ≡ Stops f.kind f.number
  pub place : f.span ≡ at
