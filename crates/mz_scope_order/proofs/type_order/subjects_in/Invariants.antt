use Rattle.std.proofs.Common.{◌≡◌, ◌++◌, map, drop}
use Rattle.mz_scope_order.specs.Subjects.{subject}
use Rattle.mz_scope_order.specs.StepsSubjects.{subjects_in}
use Rattle.mz_scope_order.proofs.type_order.subjects_in.Given as goal

abbrev pub invariant-loop-node : goal.invariant-loop-node
invariant-loop-node l = subjects_in l.functions l.base l.at l.nodes ≡ map subject l.all.items ++ subjects_in l.functions l.base l.at (drop l.node-index l.nodes)
