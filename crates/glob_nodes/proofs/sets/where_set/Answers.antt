use Rattle.std.proofs.Common.{◌&&◌, refl}
use Rattle.mz_arena.specs.Values.{is_true}
use Rattle.glob_nodes.proofs.Saying.{ok_so}
use Rattle.glob_nodes.proofs.Telling.{says_then}
use Rattle.glob_nodes.proofs.SetNodes.{set_tells}
use Rattle.glob_nodes.proofs.sets.where_set.Goals as goal

pub returns-clause-says : goal.returns-clause-says
returns-clause-says c = ok_so c.joined.result c.joined.ensures.says (λ id s. says_then c.args.run.now c.made.new.run c.joined.new.run _ _ (λ r b. b && is_true (r.term c.args.body)) c.in_ok-there.there id 6 (set_tells c.args.run.now c.made.new.run c.args.s c.in_ok-there.there c.in_ok-there.ensures.gives) c.joined.ensures.goes s (λ r. refl))
