use Rattle.std.proofs.Common.{◌≡◌, ◌++◌, map, drop}
use Rattle.mz_value.specs.Contents.{text_bytes}
use Rattle.mz_scope_order.specs.Scoped.{enum_tree}
use Rattle.mz_check.specs.StepsProgram.{case_texts}
use Rattle.mz_check.proofs.program.all_cases.Given as goal

abbrev pub invariant-loop-e : goal.invariant-loop-e
invariant-loop-e l = map (case_texts l.names) (map enum_tree l.enums) ≡ map (λ v. map text_bytes v.items) l.all.items ++ map (case_texts l.names) (map enum_tree (drop l.e-index l.enums))
