use Rattle.std.proofs.Common.{◌&&◌, is_some, refl}
use Rattle.mz_arena.specs.Values.{is_true}
use Rattle.glob_nodes.specs.Says.{num}
use Rattle.glob_nodes.proofs.Saying.{ok_so}
use Rattle.glob_nodes.proofs.Telling.{says_then, tells_of}
use Rattle.glob_nodes.proofs.guards.where_number_array.Goals as goal

pub returns-clause-says : goal.returns-clause-says
returns-clause-says c = ok_so c.where_defined.result c.where_defined.ensures.says (λ id s. says_then c.args.run.now c.joined.new.run c.where_defined.new.run _ _ (λ r b. is_some (num r c.args.x) && b) c.in_ok-inner.inner id _ (tells_of _ _ _ _ c.in_ok-inner.ensures.says) c.where_defined.ensures.goes s (λ r. refl))
