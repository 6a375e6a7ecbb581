use Rattle.std.proofs.Common.{length}
use Rattle.mz_instance.specs.Instance.{AreTruths}
use Rattle.cases_instances.proofs.nodes.are_truths.Given as goal

abbrev pub invariant-roots : goal.invariant-roots
invariant-roots l = AreTruths l.arena l.rest → AreTruths l.arena l.roots

abbrev pub decreases-roots : goal.decreases-roots
decreases-roots l = length l.rest
