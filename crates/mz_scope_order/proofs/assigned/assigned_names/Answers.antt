use Rattle.std.specs.List.{flat_map}
use Rattle.mz_tree.specs.Items.{item}
use Rattle.mz_scope_order.specs.StepsTables.{name_assigned}
use Rattle.mz_scope_order.proofs.NameTables.{all_done, one_done}
use Rattle.mz_scope_order.proofs.assigned.assigned_names.Goals as goal

pub loop-file-preserved : goal.loop-file-preserved
loop-file-preserved c =
    one_done (λ i. name_assigned (item i)) c.args.files.now c.loop-file.file-index c.file-item.result c.as_slice.result.now _ _ _ c.loop-file-test.true c.file-item.is c.as_slice.ensures.value c.in_ok-add_names.ensures c.loop-file.invariant

pub returns : goal.returns
returns c = all_done (λ x. flat_map (λ i. name_assigned (item i)) x.items.items) c.args.files.now c.loop-file.file-index _ c.loop-file.invariant c.loop-file-test.false
