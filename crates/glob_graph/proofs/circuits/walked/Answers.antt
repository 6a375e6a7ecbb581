use Rattle.std.proofs.Common.{◌≡◌, ◌+◌, ◌*◌, ◌≤◌, ap, arith, length, rules, subst, ◌∙◌}
use Rattle.std.proofs.lemmas.Int.{to_z-of_z}
use mir.Syntax.{w64}
use mir.Val.{to_z, of_z}
use Rattle.glob_graph.specs.Walks.{IsNext}
use Rattle.glob_nodes.proofs.Telling.{goes_less, goes_more}
use Rattle.glob_graph.proofs.Rounds.{length_more, walk_begins, walk_goes}
use Rattle.glob_graph.proofs.circuits.walked.Goals as goal

pub steps-init : goal.steps-init
steps-init c =
    let none : length c.args.walk.now.items ≡ 0 = ap length c.requires.none in
    (walk_begins c.args.run.now c.first_index.new.run c.args.xs.now c.args.list c.in_ok-at.at c.args.walk.now.items c.requires.none c.in_ok-at.ensures.is, (goes_less 0 _ c.args.run.now c.first_index.new.run (omega arith) c.in_ok-at.ensures.goes, omega (arith, none)))

pub steps-preserved : goal.steps-preserved
steps-preserved c =
    let low : length c.steps.walk.items + 1 ≤ length c.args.xs.now.items.items = omega (arith, c.steps-test.true) in
    let one : length c.push.new.self.items ≡ length c.steps.walk.items + 1 = ap length c.in_ok-push.ensures.items ∙ length_more c.steps.walk.items c.steps.at ∙ omega arith in
    let next = subst (λ n. IsNext c.steps.run c.following.new.run (n, c.args.xs.now.last) c.args.list c.steps.at c.in_ok-at-2.at) (to_z-of_z w64 c.args.xs.now.first (search rules))
    (subst (λ n. IsNext c.steps.run c.following.new.run (to_z w64 (of_z w64 c.args.xs.now.first), n) c.args.list c.steps.at c.in_ok-at-2.at) (to_z-of_z w64 c.args.xs.now.last (search rules)) c.in_ok-at-2.ensures.next) in (
      walk_goes c.args.run.now c.steps.run c.following.new.run c.args.xs.now c.args.list c.steps.at c.in_ok-at-2.at 56 c.steps.walk.items c.push.new.self.items c.requires.count c.steps.invariant.0 low c.in_ok-push.ensures.items c.in_ok-at-2.ensures.goes next,
      (goes_more (56 * length c.steps.walk.items) 56 _ c.args.run.now c.steps.run c.following.new.run (omega (arith, one)) c.steps.invariant.1.0 c.in_ok-at-2.ensures.goes, omega (arith, one, low)),
    )

pub returns-in_err-at-clause-goes : goal.returns-in_err-at-clause-goes
returns-in_err-at-clause-goes c = goes_less 0 _ c.args.run.now c.first_index.new.run (omega arith) c.first_index.ensures.goes

pub returns-in_err-push-clause-goes : goal.returns-in_err-push-clause-goes
returns-in_err-push-clause-goes c = goes_less (56 * length c.steps.walk.items) _ c.args.run.now c.steps.run (omega (arith, c.steps.invariant.1.1)) c.steps.invariant.1.0

pub returns-in_err-at-2-clause-goes : goal.returns-in_err-at-2-clause-goes
returns-in_err-at-2-clause-goes c = goes_more (56 * length c.steps.walk.items) 56 _ c.args.run.now c.steps.run c.following.new.run (omega (arith, c.steps-test.true)) c.steps.invariant.1.0 c.following.ensures.goes

pub returns-clause-goes : goal.returns-clause-goes
returns-clause-goes c = goes_less (56 * length c.steps.walk.items) _ c.args.run.now c.steps.run (omega (arith, c.steps.invariant.1.1)) c.steps.invariant.1.0

pub returns-clause-walked : goal.returns-clause-walked
returns-clause-walked c = c.steps.invariant.0

pub returns-clause-long : goal.returns-clause-long
returns-clause-long c = omega (arith, c.steps.invariant.1.1, c.steps-test.false)
