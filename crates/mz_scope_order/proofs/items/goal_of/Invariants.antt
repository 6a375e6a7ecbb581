use Rattle.std.proofs.Common.{◌≡◌, drop}
use Rattle.mz_scope_names.specs.StepsWalk.{items_of}
use Rattle.mz_scope_order.specs.Parts.{goal_of}
use Rattle.mz_scope_order.proofs.items.goal_of.Given as goal

abbrev pub invariant-loop-file : goal.invariant-loop-file
invariant-loop-file l = goal_of (items_of (drop l.file-index l.files)) ≡ goal_of (items_of l.files)
