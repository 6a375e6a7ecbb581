use Rattle.std.proofs.Common.{ap, refl, ◌∙◌, map}
use Rattle.mz_tree.specs.Items.{item}
use Rattle.mz_scope_names.proofs.Lists.{all_read}
use Rattle.mz_scope_order.specs.Parts.{output_in}
use Rattle.mz_scope_order.specs.Scoped.{lent_tree}
use Rattle.mz_scope_order.proofs.Picking.{one_picked, picked, passed, no_output}
use Rattle.mz_scope_order.proofs.items.add_outputs.Goals as goal
use Rattle.mz_scope_order.proofs.items.add_outputs.Goals.{in-Output+in_ok-push, in_default}

pub loop-item-preserved : goal.loop-item-preserved
loop-item-preserved c =
    let i = c.item-item.result in
    let done = map lent_tree c.loop-item.out.items in
    one_picked (λ x. output_in (item x)) c.args.items.now c.loop-item.item-index i _ done (map lent_tree c.match-item.out.items) c.loop-item.invariant c.loop-item-test.true c.item-item.is
    (elim c.match-item.branch [
      | in-Output+in_ok-push w ↦ picked lent_tree c.loop-item.out.items c.match-item.out.items _ (output_in (item i)) (ap (λ v. v.items) w.out-is ∙ w.in_ok-push.ensures.items) (ap (λ z. output_in (item z)) w.in-Output.is)
      | in_default w ↦ passed done (map lent_tree c.match-item.out.items) (output_in (item i)) (ap (λ v. map lent_tree v.items) w.out-is) (no_output i w.in_default.not-Output)
    ])

pub returns : goal.returns
returns c = all_read (λ x. output_in (item x)) c.args.items.now c.loop-item.item-index (map lent_tree c.args.out.now.items) (map lent_tree c.loop-item.out.items) _ c.loop-item.invariant c.loop-item-test.false refl
