use Rattle.std.proofs.Common.{◌∙◌, sym, map}
use Rattle.std.specs.List.{flat_map}
use Rattle.mz_tree.specs.Items.{item}
use Rattle.mz_tree.specs.Data.{given}
use Rattle.mz_scope_names.specs.StepsWalk.{items_of}
use Rattle.mz_scope_names.proofs.Gathered.{files_flat}
use Rattle.mz_scope_order.specs.StepsParts.{enum_by}
use Rattle.mz_scope_order.specs.StepsTables.{item_found}
use Rattle.mz_scope_order.proofs.GatheringItems.{enums_are}
use Rattle.mz_scope_order.proofs.NameTables.{all_done, one_done}
use Rattle.mz_scope_order.proofs.enums.enums_of.Goals as goal

pub loop-file-preserved : goal.loop-file-preserved
loop-file-preserved c =
    let f = item_found c.in_ok-table.table in
    one_done (λ i. enum_by f (item i)) c.args.files.now c.loop-file.file-index c.file-item.result c.as_slice.result.now _ _ _ c.loop-file-test.true c.file-item.is c.as_slice.ensures.value c.in_ok-add_enums.ensures c.loop-file.invariant

pub returns : goal.returns
returns c =
    let f = item_found c.in_ok-table.table in
    all_done (λ x. flat_map (λ i. enum_by f (item i)) x.items.items) c.args.files.now c.loop-file.file-index _ c.loop-file.invariant c.loop-file-test.false
    ∙ sym (files_flat (enum_by f) c.args.files.now)
    ∙ enums_are f (map given c.args.items.now) c.in_ok-table.ensures (items_of c.args.files.now)
