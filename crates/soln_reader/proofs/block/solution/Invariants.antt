use Rattle.std.proofs.Common.{◌≡◌, drop, map}
use Rattle.mz_value.specs.Contents.{content}
use Rattle.fz_items.specs.Forms.{form}
use Rattle.soln_reader.specs.Views.{given}
use Rattle.soln_reader.specs.Blocks.{solution}
use Rattle.soln_reader.proofs.Solutions.{with_all}
use Rattle.soln_reader.proofs.block.solution.Given as goal

abbrev pub invariant-loop-k : goal.invariant-loop-k
invariant-loop-k l = with_all (map content l.values.items) (solution (drop l.k (map form l.shapes)) (drop l.k (map given l.gs))) ≡ solution (map form l.shapes) (map given l.gs)
