use Rattle.std.proofs.Common.{sym, ◌∙◌}
use Rattle.flat_reif.specs.States.{state}
use Rattle.flat_root.proofs.Rooting.{true_constant, false_constant, if_ok_weaker}
use Rattle.flat_root.proofs.posts.post_constant.Goals as goal

pub returns-then-is_one : goal.returns-then-is_one
returns-then-is_one c = true_constant (state c.args.flat.now) c.args.id c.args.n.now c.requires.ready c.requires.node c.requires.kind (sym c.is_one.ensures ∙ c.if-is_one.true)

pub returns-else-is_one : goal.returns-else-is_one
returns-else-is_one c = if_ok_weaker c.post_false.result _ _ (false_constant (state c.args.flat.now) c.args.id c.args.n.now c.requires.ready c.requires.node c.requires.kind (state c.post_false.new.self) (sym c.is_one.ensures ∙ c.if-is_one.false)) c.post_false.ensures.posted
