use Rattle.std.proofs.Common.{◌≡◌, drop, map}
use Rattle.mz_value.specs.Contents.{content}
use Rattle.mz_operations.specs.Views.{as_set}
use Rattle.mz_globals.specs.Reading.{each}
use Rattle.glob_order.proofs.Each.{prefixed}
use Rattle.glob_order.proofs.of_values.reading.each_set.Given as goal

abbrev pub invariant-loop-x : goal.invariant-loop-x
invariant-loop-x l = prefixed (map (λ s. s.now) l.all.items) (each as_set (map content (drop l.x-index l.items))) ≡ each as_set (map content l.items)
