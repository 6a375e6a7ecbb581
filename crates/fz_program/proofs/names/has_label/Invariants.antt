use Rattle.std.proofs.Common.{take, string_bytes, ◌≡◌}
use Rattle.std.specs.List.{AllByRecursion}
use Rattle.fz_program.proofs.names.has_label.Given as goal

abbrev pub invariant-loop-v : goal.invariant-loop-v
invariant-loop-v l = AllByRecursion (λ v. string_bytes v.label.text ≡ string_bytes l.label.text → ⊥) (take l.v-index l.vars)
