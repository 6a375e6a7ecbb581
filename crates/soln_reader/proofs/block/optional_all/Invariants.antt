use Rattle.std.proofs.Common.{◌≡◌, drop, map}
use Rattle.mz_value.specs.Contents.{content}
use Rattle.fz_items.specs.Contents.{content_of}
use Rattle.soln_reader.specs.Blocks.{optional_all}
use Rattle.soln_reader.proofs.Solutions.{with_all}
use Rattle.soln_reader.proofs.block.optional_all.Given as goal

abbrev pub invariant-loop-k : goal.invariant-loop-k
invariant-loop-k l = with_all (map content l.values.items) (optional_all (drop l.k l.domains) (drop l.k (map content_of l.occurs)) (drop l.k (map content_of l.items))) ≡ optional_all l.domains (map content_of l.occurs) (map content_of l.items)
