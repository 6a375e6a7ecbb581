use Rattle.std.proofs.Common.{◌≡◌, drop}
use Rattle.mz_core.specs.Paths.{path_links}
use Rattle.mz_meaning.specs.Contexts.{links_close}
use Rattle.mz_eval_nodes.proofs.contexts.links_close.Given as goal

abbrev pub invariant-loop-link : goal.invariant-loop-link
invariant-loop-link l = links_close (path_links l.links) ≡ links_close (path_links (drop l.link-index l.links))
