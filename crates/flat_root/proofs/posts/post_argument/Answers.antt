use Rattle.flat_reif.specs.States.{state}
use Rattle.flat_reif.specs.Roots.{IsTrueAt}
use Rattle.flat_root.proofs.Rooting.{true_argument, posted_leads, if_ok_weaker}
use Rattle.flat_root.proofs.posts.post_argument.Goals as goal

pub returns-then-holds : goal.returns-then-holds
returns-then-holds c = true_argument (state c.args.flat.now) c.args.id c.requires.ready (c.in-Ok.ensures c.if-holds.true)

pub returns-else-holds : goal.returns-else-holds
returns-else-holds c = if_ok_weaker c.post_true.result _ _ (posted_leads (state c.args.flat.now) (state c.post_true.new.self) (IsTrueAt c.args.flat.now.arena c.args.id) c.requires.ready) c.post_true.ensures
