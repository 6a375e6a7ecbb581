-- Places and refusals.
use Rattle.std.specs.Prelude.{ℕ, pos}
use Rattle.mz_base.specs.declared.fault.Span.{Span}
use Rattle.mz_base.specs.declared.fault.Fault.{Fault}
use Rattle.mz_base.specs.declared.kind.Kind.{Kind}
use Rattle.mz_base.specs.declared.stop.Stop.{Stop}
use Rattle.mz_base.specs.declared.stop.Stop.TheVariants as stop

-- where a file begins
abbrev pub start_of : ℕ → Span
start_of file = record { file = file; line = 1; col = 1; byte = 0 }

-- a refusal whose kind has no number
abbrev pub fault_at : Kind → Span → Fault
fault_at kind at = record { kind = kind; span = at; number = pos 0 }

-- where a stage stops with a refusal, this holds of it
abbrev pub IfRefused : Stop → (Fault → Type 0) → Type 0
IfRefused (stop.Refused f) holds = holds f
IfRefused stop.Memory holds = Unit {0}
