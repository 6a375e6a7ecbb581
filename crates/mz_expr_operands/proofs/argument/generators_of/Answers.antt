use Rattle.std.proofs.Common.{rules, ◌≡◌, ◌<◌, ◌∙◌, sym, ap, length}
use Rattle.std.proofs.lemmas.List.{map-id}
use Rattle.std.proofs.lemmas.Iterator.Adapters.{YieldsList-from_vec}
use Rattle.std.proofs.lemmas.Iterator.Consumers.{YieldsList-end}
use Rattle.mz_expr_operands.specs.Views.{role}
use Rattle.mz_expr_operands.proofs.Arguments.{taken-none}
use Rattle.mz_expr_operands.proofs.ArgumentsOfCode.{taken_of-waiting, taken_of-bound, taken_of-unfit, taken_of-done, taken_of-waits, taken_of-fails}
use Rattle.mz_expr_operands.proofs.argument.generators_of.Goals as goal
use Rattle.mz_expr_operands.proofs.argument.generators_of.Goals.{After-drop-arg-iterator-2, else-fit-via-then-fit+else-is_empty-2, else-fit-via-else-fit}

pub loop-arg-init : goal.loop-arg-init
loop-arg-init c = rw (c.new-all.ensures.items, c.new-names.ensures.items) taken-none

pub loop-arg-preserved-in-Continue-branch-3 : goal.loop-arg-preserved-in-Continue-branch-3
loop-arg-preserved-in-Continue-branch-3 c =
    taken_of-waiting c.loop-arg.yielded c.in-Some.arg c.loop-arg.fit c.loop-arg.all.items c.loop-arg.names.items c.push.new.self.items
    c.in_ok-name.field-0 c.in-Waiting.name c.in-Waiting.at c.in_ok-name.ensures c.in-Waiting.is c.in_ok-push-in-Waiting.ensures.items c.loop-arg.invariant

pub loop-arg-preserved-in-Bound : goal.loop-arg-preserved-in-Bound
loop-arg-preserved-in-Bound c =
    taken_of-bound c.loop-arg.yielded c.in-Some.arg c.loop-arg.fit c.loop-arg.all.items c.push-in-Bound.new.self.items
    c.loop-arg.names.items c.in_ok-names_of-in-Bound.names_of.items c.new-names-in-Bound.result.items
    c.in_ok-name.field-0 c.in-Bound.more.items c.in-Bound.set c.in-Bound.cond c.take.result c.taken.result c.make_generator.result
    c.in_ok-name.ensures (ap role c.in-Bound.is) c.in_ok-names_of-in-Bound.ensures c.take.ensures c.taken.ensures c.make_generator.ensures
    c.in_ok-push-in-Bound.ensures.items c.new-names-in-Bound.ensures.items c.loop-arg.invariant

pub loop-arg-preserved : goal.loop-arg-preserved
loop-arg-preserved c =
    taken_of-unfit c.loop-arg.yielded c.in-Some.arg c.loop-arg.fit c.loop-arg.all.items c.loop-arg.names.items
    c.in_ok-name.field-0 c.in_ok-name.ensures c.in-Unfit.is c.loop-arg.invariant

-- At the loop's end every argument was taken.
every_yielded : (c : After-drop-arg-iterator-2) → c.loop-arg.yielded ≡ c.args.args.items
every_yielded c =
    let seen = YieldsList-end (YieldsList-from_vec c.args.args.items c.into_iter-arg-iterator.ensures.into_iter_gives.0 (c.into_iter-arg-iterator.ensures.into_iter_gives.1 ∙ c.args.args.ok.0)) c.loop-arg.yielded c.loop-arg.arg-iterator c.loop-arg.yielded_by c.next.result c.next.new.self c.in-None.is c.next.ensures.steps in
    sym (map-id c.loop-arg.yielded) ∙ seen.0

pub returns-then-is_empty-2 : goal.returns-then-is_empty-2
returns-then-is_empty-2 c =
    let some : 0 < length c.args.args.items = search rules in
    let none : length c.loop-arg.names.items ≡ 0 = search rules in
    taken_of-done c.loop-arg.yielded c.args.args.items c.loop-arg.fit c.loop-arg.all.items c.loop-arg.names.items (every_yielded (goal.at.returns-then-is_empty-2 c).After-drop-arg-iterator-2) some c.if-fit.true none c.loop-arg.invariant

pub returns-else-fit : goal.returns-else-fit
returns-else-fit c =
    let some : 0 < length c.args.args.items = search rules in
    elim c.else-fit.branch [
      | else-fit-via-then-fit+else-is_empty-2 w ↦ taken_of-waits c.loop-arg.yielded c.args.args.items c.loop-arg.fit c.loop-arg.all.items c.loop-arg.names.items (every_yielded (goal.at.returns-else-fit c).After-drop-arg-iterator-2) some (search rules) c.loop-arg.invariant
      | else-fit-via-else-fit w ↦ taken_of-fails c.loop-arg.yielded c.args.args.items c.loop-arg.fit c.loop-arg.all.items c.loop-arg.names.items (every_yielded (goal.at.returns-else-fit c).After-drop-arg-iterator-2) some w.if-fit.false c.loop-arg.invariant
    ]
