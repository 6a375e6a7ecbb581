use Rattle.std.proofs.Common.{◌&&◌, is_some, refl}
use Rattle.mz_arena.specs.Values.{as_set}
use Rattle.glob_nodes.proofs.Saying.{ok_so}
use Rattle.glob_nodes.proofs.Telling.{says_then, tells_of}
use Rattle.glob_sets.proofs.links.where_both.Goals as goal

pub returns-clause-says : goal.returns-clause-says
returns-clause-says c = ok_so c.where_set.result c.where_set.ensures.says (λ id s. says_then c.args.run.now c.joined.new.run c.where_set.new.run _ _ (λ r b. is_some (as_set (r.term c.args.s)) && b) c.in_ok-inner.inner id _ (tells_of _ _ _ _ c.in_ok-inner.ensures.says) c.where_set.ensures.goes s (λ r. refl))
