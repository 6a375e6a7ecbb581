use Rattle.std.proofs.Common.{◌≡◌, ◌++◌, drop, map}
use Rattle.mz_value.specs.Contents.{content}
use Rattle.fz_items.specs.Contents.{content_of}
use Rattle.soln_reader.proofs.block.copied_all.Given as goal

abbrev pub invariant-loop-x : goal.invariant-loop-x
invariant-loop-x l = map content l.values.items ++ drop l.x-index (map content_of l.items) ≡ map content_of l.items
