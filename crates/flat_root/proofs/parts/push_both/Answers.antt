use Rattle.flat_root.proofs.Totaling.{two_pushed}
use Rattle.flat_root.proofs.parts.push_both.Goals as goal

pub returns : goal.returns
returns c = two_pushed c.args.stack.now.items c.push.new.self.items c.push-2.new.self.items c.args.b c.args.a c.in_ok-push.ensures.items c.in_ok-push-2.ensures.items
