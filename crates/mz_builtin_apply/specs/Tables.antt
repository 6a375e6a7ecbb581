-- That the two tables of the library are in step: what its lines mean, and which signatures they have.
use Rattle.std.specs.Prelude.{◌≡◌, map}
use Rattle.mz_builtin.specs.Table.{built_ins}
use Rattle.mz_operations.specs.Lines.{lines}

-- the lines have the names of the signatures, in one order
abbrev pub AreInStep : Type 0
AreInStep = map (λ l. l.name) lines ≡ map (λ s. s.name) built_ins
