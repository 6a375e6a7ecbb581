use Rattle.flat_reif.specs.States.{state}
use Rattle.flat_root.proofs.Totaling.{one_added}
use Rattle.flat_root.proofs.totals.add_total.Goals as goal

pub returns-clause-added : goal.returns-clause-added
returns-clause-added c = one_added (state c.args.flat.now) (state c.total.new.self) c.args.id c.in-Ok.x c.args.defined.now.items c.push.new.self.items c.args.terms.now.items c.push-2.new.self.items c.requires.ready c.requires.root c.in-Ok.ensures.totaled c.in_ok-push.ensures.items c.in_ok-push-2.ensures.items
