use Rattle.std.proofs.Common.{◌&&◌, is_some, refl}
use Rattle.mz_arena.specs.Values.{is_true}
use Rattle.glob_nodes.specs.Says.{num}
use Rattle.glob_nodes.proofs.Saying.{ok_so}
use Rattle.glob_nodes.proofs.Telling.{says_then, tells_of}
use Rattle.glob_nodes.proofs.nodes.where_defined.Goals as goal

pub returns-clause-says : goal.returns-clause-says
returns-clause-says c = ok_so c.joined.result c.joined.ensures.says (λ id s. says_then c.args.run.now c.there.new.run c.joined.new.run (λ r. is_some (num r c.args.x)) (λ r. is_some (num r c.args.x) && is_true (r.term c.args.body)) (λ r b. b && is_true (r.term c.args.body)) c.in_ok-there.there id 6 (tells_of c.args.run.now c.there.new.run (λ r. is_some (num r c.args.x)) c.in_ok-there.there c.in_ok-there.ensures.says) c.joined.ensures.goes s (λ r. refl))
