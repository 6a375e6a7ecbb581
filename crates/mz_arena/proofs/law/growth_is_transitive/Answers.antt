use Rattle.mz_arena.proofs.Growing.{grew_both}
use Rattle.mz_arena.proofs.law.growth_is_transitive.Goals as goal

pub returns : goal.returns
returns c = λ xs ys zs f g. grew_both f g
