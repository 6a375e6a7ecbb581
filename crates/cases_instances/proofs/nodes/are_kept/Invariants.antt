use Rattle.std.proofs.Common.{ℕ, ◌<◌, ◌-◌, length}
use Rattle.cases_instances.specs.Nodes.{IsKeptAt}
use Rattle.cases_instances.proofs.nodes.are_kept.Given as goal

abbrev pub invariant-ids : goal.invariant-ids
invariant-ids l = (j : ℕ) → j < l.id → IsKeptAt l.arena l.ids j

abbrev pub decreases-ids : goal.decreases-ids
decreases-ids l = length l.arena - l.id
