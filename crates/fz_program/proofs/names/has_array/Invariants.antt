use Rattle.std.proofs.Common.{take, string_bytes, ◌≡◌}
use Rattle.std.specs.List.{AllByRecursion}
use Rattle.fz_program.proofs.names.has_array.Given as goal

abbrev pub invariant-loop-a : goal.invariant-loop-a
invariant-loop-a l = AllByRecursion (λ v. string_bytes v.label.text ≡ string_bytes l.label.text → ⊥) (take l.a-index l.arrays)
