-- What the callers of `items` are promised, from what the descent gives.
use Rattle.std.proofs.Common.{◌∙◌}
use Rattle.mz_parser.proofs.Whole.{whole, derived, bounded}
use Rattle.mz_parser.proofs.items.Goals as goal

pub returns-clause-reads : goal.returns-clause-reads
returns-clause-reads c = whole _ _ _ _ _ _ _ (c.all_items.ensures.end ∙ c.new-cur.ensures.end) c.new-cur.ensures.rest c.new-cur.ensures.room c.all_items.ensures.whole c.all_items.ensures.reads

pub returns-clause-derived : goal.returns-clause-derived
returns-clause-derived c = derived _ _ _ (returns-clause-reads c)

pub returns-clause-bounded : goal.returns-clause-bounded
returns-clause-bounded c = bounded _ _ (returns-clause-derived c)
