use Rattle.std.proofs.Common.{◌++◌, ap, sym, refl, ◌∙◌}
use Rattle.mz_tree.specs.Items.{item}
use Rattle.mz_scope_names.proofs.Lists.{one_read, all_read}
use Rattle.mz_scope.specs.Tests.{solve_in}
use Rattle.mz_scope.proofs.Solving.{no_solve, passed}
use Rattle.mz_scope.proofs.solves.add_solves.Goals as goal
use Rattle.mz_scope.proofs.solves.add_solves.Goals.{in-Solve+in_ok-push, in_default}

pub loop-item-preserved : goal.loop-item-preserved
loop-item-preserved c =
    let i = c.item-item.result in
    let done = c.loop-item.out.items in
    one_read (λ x. solve_in (item x)) c.args.items.now c.loop-item.item-index i c.args.out.now.items done c.match-item.out.items c.loop-item.invariant c.loop-item-test.true c.item-item.is
    (elim c.match-item.branch [
      | in-Solve+in_ok-push w ↦ ap (λ v. v.items) w.out-is ∙ w.in_ok-push.ensures.items ∙ ap (λ z. done ++ z) (sym (ap (λ z. solve_in (item z)) w.in-Solve.is))
      | in_default w ↦ passed done c.match-item.out.items (solve_in (item i)) (ap (λ v. v.items) w.out-is) (no_solve i w.in_default.not-Solve)
    ])

pub returns : goal.returns
returns c = all_read (λ x. solve_in (item x)) c.args.items.now c.loop-item.item-index c.args.out.now.items c.loop-item.out.items _ c.loop-item.invariant c.loop-item-test.false refl
