use Rattle.std.proofs.Common.{◌++◌, ap, refl, ◌∙◌, sym}
use Rattle.mz_tree.specs.Items.{item}
use Rattle.mz_scope_names.proofs.Lists.{all_read}
use Rattle.mz_scope_order.specs.StepsTables.{name_assigned}
use Rattle.mz_scope_order.proofs.Picking.{one_picked, passed, no_name}
use Rattle.mz_scope_order.proofs.assigned.add_names.Goals as goal
use Rattle.mz_scope_order.proofs.assigned.add_names.Goals.{in-Assign+in_ok-push, in_default}

pub loop-item-preserved : goal.loop-item-preserved
loop-item-preserved c =
    let i = c.item-item.result in
    let done = c.loop-item.out.items in
    one_picked (λ x. name_assigned (item x)) c.args.items.now c.loop-item.item-index i _ done (c.match-item.out.items) c.loop-item.invariant c.loop-item-test.true c.item-item.is
    (elim c.match-item.branch [
      | in-Assign+in_ok-push w ↦ ap (λ v. v.items) w.out-is ∙ w.in_ok-push.ensures.items ∙ ap (λ z. c.loop-item.out.items ++ z) (sym (ap (λ z. name_assigned (item z)) w.in-Assign.is))
      | in_default w ↦ passed done c.match-item.out.items (name_assigned (item i)) (ap (λ v. v.items) w.out-is) (no_name i w.in_default.not-Assign)
    ])

pub returns : goal.returns
returns c = all_read (λ x. name_assigned (item x)) c.args.items.now c.loop-item.item-index c.args.out.now.items (c.loop-item.out.items) _ c.loop-item.invariant c.loop-item-test.false refl
