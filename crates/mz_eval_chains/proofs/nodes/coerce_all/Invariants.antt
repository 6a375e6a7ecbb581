use Rattle.std.proofs.Common.{drop}
use Rattle.mz_core.specs.Paths.{path_links}
use Rattle.mz_meaning.specs.Forms.{coerced_by}
use Rattle.mz_symbol.specs.Makes.{Continues, ContinuesBare}
use Rattle.mz_eval_cells.specs.Views.{seen}
use Rattle.mz_eval_scopes.specs.Seen.{world_seen}
use Rattle.mz_eval_chains.proofs.nodes.coerce_all.Given as goal

abbrev pub invariant-loop-link : goal.invariant-loop-link
invariant-loop-link l =
    Continues l.fn.run l.run
    (λ r. coerced_by (world_seen r l.world) l.at (path_links l.links) (seen r l.fn.k))
    (λ r. coerced_by (world_seen r l.world) l.at (path_links (drop l.link-index l.links)) (seen r l.cell))
    × ContinuesBare l.fn.run l.run
    (λ r. coerced_by (world_seen r l.world) l.at (path_links l.links) (seen r l.fn.k))
    (λ r. coerced_by (world_seen r l.world) l.at (path_links (drop l.link-index l.links)) (seen r l.cell))
