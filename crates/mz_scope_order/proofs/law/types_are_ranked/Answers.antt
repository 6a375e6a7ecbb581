use Rattle.mz_scope_order.proofs.Ranking as ranking
use Rattle.mz_scope_order.proofs.law.types_are_ranked.Goals as goal

pub returns : goal.returns
returns c = λ decls functions node base count types of order k closed sized parts o whole acyclic. ranking.ranked decls functions node base types count of order k closed sized parts o whole acyclic
