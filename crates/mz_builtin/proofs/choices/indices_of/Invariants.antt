use Rattle.std.proofs.Common.{◌≡◌, ◌++◌, drop, map}
use Rattle.mz_core.specs.declared.types.Ix.TheVariants as ix
use Rattle.mz_builtin.proofs.choices.indices_of.Given as goal

abbrev pub invariant-loop-e : goal.invariant-loop-e
invariant-loop-e l = map ix.Enum l.enums ≡ l.all.items ++ map ix.Enum (drop l.e-index l.enums)
