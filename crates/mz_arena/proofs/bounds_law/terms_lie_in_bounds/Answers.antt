use Rattle.mz_arena.proofs.Terms.{terms_lie, domains_lie, bounds_are_sets}
use Rattle.mz_arena.proofs.bounds_law.terms_lie_in_bounds.Goals as goal

pub returns : goal.returns
returns c = record { terms = terms_lie; domains = domains_lie; sets = bounds_are_sets }
