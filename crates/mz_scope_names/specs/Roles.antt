-- What a name is there for, at one place.
use Rattle.std.specs.Prelude.{ℕ}
use Rattle.mz_base.specs.declared.fault.Span.{Span}
use Rattle.mz_scope_names.specs.declared.occurrence.Occurrence.{Occurrence}
use Rattle.mz_scope_names.specs.declared.occurrence.Role.{Role}

abbrev pub occurs : Role → ℕ → Span → Occurrence
occurs r n s = record { role = r; name = n; span = s }
