use Rattle.mz_eval_row_symbols.proofs.sets.over_sets.Goals as goal

pub returns-in-ArrayUnion-clause-means : goal.returns-in-ArrayUnion-clause-means
returns-in-ArrayUnion-clause-means c = rw c.in-ArrayUnion.is (λ names. c.array_union.ensures.means)

pub returns-in-ArrayIntersect-clause-means : goal.returns-in-ArrayIntersect-clause-means
returns-in-ArrayIntersect-clause-means c = rw c.in-ArrayIntersect.is (λ names. c.array_intersect.ensures.means)
