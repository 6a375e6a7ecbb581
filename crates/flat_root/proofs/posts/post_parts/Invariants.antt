use Rattle.flat_reif.specs.States.{state}
use Rattle.flat_root.proofs.Rooting.{PostedSoFar}
use Rattle.flat_root.proofs.posts.post_parts.Given as goal

abbrev pub invariant-parts : goal.invariant-parts
invariant-parts l = PostedSoFar (state l.fn.flat) (state l.flat) l.parts l.id-index
