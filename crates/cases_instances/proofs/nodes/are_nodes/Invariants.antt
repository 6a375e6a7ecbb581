use Rattle.std.proofs.Common.{◌≡◌, ◌+◌, map, length, false}
use Rattle.mz_instance.specs.Parts.{AreNodes}
use Rattle.cases_instances.specs.Seen.{part}
use Rattle.cases_instances.proofs.nodes.are_nodes.Given as goal

abbrev pub invariant-parts : goal.invariant-parts
invariant-parts l = record {
  nodes : AreNodes l.arena false l.k l.nodes (map part l.rest) → AreNodes l.arena false 0 l.ids (map part l.parts);
  count : l.k + length l.rest ≡ length l.parts;
}

abbrev pub decreases-parts : goal.decreases-parts
decreases-parts l = length l.rest
