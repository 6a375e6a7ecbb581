-- What reading a program answers.
use Rattle.std.specs.Prelude.{◌≡◌, ℕ, List}
use Rattle.mz_base.specs.declared.fault.Fault.{Fault}
use Rattle.mz_base.specs.declared.kind.Kind.TheVariants.{Syntax}
use Rattle.mz_base.specs.Faults.{fault_at, start_of}
use Rattle.fz_program.specs.Flat.{Program}
use Rattle.fz_text.specs.Spelling.{Spells}

-- the bytes spell no program
abbrev pub SpellsNone : List ℕ → Type 0
SpellsNone bytes = (p : Program) → Spells bytes p → ⊥

-- a refusal at the first byte, where nothing is spelled
abbrev pub IsUnspelled : List ℕ → Fault → Type 0
IsUnspelled bytes f = (f ≡ fault_at Syntax (start_of 0)) × SpellsNone bytes

-- bytes spell at most one program
abbrev pub IsOnly : Type 0
IsOnly = (bytes : List ℕ) (p q : Program) → Spells bytes p → Spells bytes q → p ≡ q
