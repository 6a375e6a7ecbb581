use Rattle.std.proofs.Common.{arith}
use Rattle.mz_value.proofs.value.Value.TheLaws.{the_size}
use Rattle.mz_value.specs.Contents.{content, case_names}
use Rattle.mz_value.proofs.Showable.{item_written, showable_item, showable_behind, item_below, behind_below}
use Rattle.mz_value.proofs.shown.+show.Goals as goal

pub push_items-push_more_items-requires : goal.push_items-push_more_items-requires
push_items-push_more_items-requires t c =
    let bound = behind_below the_size c.args.items.now in
    (omega (arith, bound), showable_behind content (case_names c.args.cases.now) c.args.items.now c.requires)

pub push_more_items-push_value-requires : goal.push_more_items-push_value-requires
push_more_items-push_value-requires t c =
    let bound = item_below the_size c.args.items.now c.loop-x.x-index c.x-item.result (omega arith) c.x-item.is in
    (omega (arith, bound), showable_item content (case_names c.args.cases.now) c.args.items.now c.loop-x.x-index c.x-item.result c.requires (omega arith) c.x-item.is)

pub push_more_items-loop-x-preserved : goal.push_more_items-loop-x-preserved
push_more_items-loop-x-preserved t c =
    item_written content (case_names c.args.cases.now) c.args.items.now c.loop-x.x-index c.x-item.result _ _ _ _ (omega arith) c.x-item.is c.loop-x.invariant c.in_ok-push_str.ensures.bytes c.in_ok-push_value.ensures
