use Rattle.mz_arena.proofs.FreeTerms.{same_terms}
use Rattle.mz_arena.proofs.instance.terms_are_told_by_free_nodes.Goals as goal

pub returns : goal.returns
returns c = same_terms
