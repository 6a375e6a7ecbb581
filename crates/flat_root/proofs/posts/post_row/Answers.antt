use Rattle.std.proofs.Common.{sym, ◌∙◌}
use Rattle.flat_reif.specs.States.{state}
use Rattle.flat_reif.specs.Roots.{IsTrueAt}
use Rattle.flat_root.proofs.Rooting.{has_test, has_self, posted_leads, if_ok_weaker}
use Rattle.flat_root.proofs.posts.post_row.Goals as goal

pub post_test-requires-clause-test : goal.post_test-requires-clause-test
post_test-requires-clause-test c = has_test (state c.args.flat.now) c.args.id c.args.n.now c.requires.part c.requires.node c.requires.kind c.in-Some.name (sym c.test_of.ensures ∙ c.in-Some.is)

pub post_argument-requires-clause-has : goal.post_argument-requires-clause-has
post_argument-requires-clause-has c = has_self (state c.args.flat.now) c.args.id c.args.n.now c.requires.part c.requires.node c.requires.kind (sym c.test_of.ensures ∙ c.in-None.is)

pub returns-in-Some : goal.returns-in-Some
returns-in-Some c = if_ok_weaker c.post_test.result _ _ (posted_leads (state c.args.flat.now) (state c.post_test.new.self) (IsTrueAt c.args.flat.now.arena c.args.id) c.requires.ready) c.post_test.ensures
