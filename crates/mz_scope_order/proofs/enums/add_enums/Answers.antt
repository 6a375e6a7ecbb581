use Rattle.std.proofs.Common.{ap, refl, ◌∙◌, map}
use Rattle.mz_tree.specs.Items.{item}
use Rattle.mz_scope_names.proofs.Lists.{all_read}
use Rattle.mz_scope_order.specs.Scoped.{enum_tree}
use Rattle.mz_scope_order.specs.StepsParts.{enum_by}
use Rattle.mz_scope_order.specs.StepsTables.{item_found}
use Rattle.mz_scope_order.proofs.Picking.{one_picked, picked, passed, enum_picked, no_enum}
use Rattle.mz_scope_order.proofs.enums.add_enums.Goals as goal
use Rattle.mz_scope_order.proofs.enums.add_enums.Goals.{in-Enum+in_ok-cases+in_ok-push, in_default}

pub loop-item-preserved : goal.loop-item-preserved
loop-item-preserved c =
    let f = item_found c.args.table.now in
    let i = c.item-item.result in
    let done = map enum_tree c.loop-item.out.items in
    let now = map enum_tree c.match-item.out.items in
    one_picked (λ x. enum_by f (item x)) c.args.items.now c.loop-item.item-index i _ done now c.loop-item.invariant c.loop-item-test.true c.item-item.is
    (elim c.match-item.branch [
      | in-Enum+in_ok-cases+in_ok-push w ↦ picked enum_tree c.loop-item.out.items c.match-item.out.items _ (enum_by f (item i)) (ap (λ v. v.items) w.out-is ∙ w.in_ok-push.ensures.items)
          (enum_picked f i w.in-Enum.name w.in-Enum.span w.in-Enum.listed w.in_ok-cases.cases.items w.in-Enum.is w.in_ok-cases.ensures)
      | in_default w ↦ passed done now (enum_by f (item i)) (ap (λ v. map enum_tree v.items) w.out-is) (no_enum f i w.in_default.not-Enum)
    ])

pub returns : goal.returns
returns c = all_read (λ x. enum_by (item_found c.args.table.now) (item x)) c.args.items.now c.loop-item.item-index (map enum_tree c.args.out.now.items) (map enum_tree c.loop-item.out.items) _ c.loop-item.invariant c.loop-item-test.false refl
