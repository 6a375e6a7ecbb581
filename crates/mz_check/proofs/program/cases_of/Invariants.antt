use Rattle.std.proofs.Common.{◌≡◌, ◌++◌, ℕ, map, drop}
use Rattle.mz_base.specs.declared.fault.Span.{Span}
use Rattle.mz_base.specs.Names.{text_of}
use Rattle.mz_value.specs.Contents.{text_bytes}
use Rattle.mz_check.proofs.program.cases_of.Given as goal

abbrev pub invariant-loop-c : goal.invariant-loop-c
invariant-loop-c l = map (λ (c : ℕ × Span). text_of l.names c.0) l.cases ≡ map text_bytes l.all.items ++ map (λ (c : ℕ × Span). text_of l.names c.0) (drop l.c-index l.cases)
