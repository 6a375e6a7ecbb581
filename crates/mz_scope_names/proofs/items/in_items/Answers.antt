use Rattle.std.proofs.Common.{refl}
use Rattle.mz_tree.specs.Items.{item}
use Rattle.mz_scope_names.specs.Occurrences.{in_item}
use Rattle.mz_scope_names.proofs.Lists.{one_read, all_read}
use Rattle.mz_scope_names.proofs.items.in_items.Goals as goal

pub loop-item-preserved : goal.loop-item-preserved
loop-item-preserved c =
    one_read (λ x. in_item (item x)) c.args.items.now c.loop-item.item-index c.item-item.result c.args.out.now.items c.loop-item.out.items c.in_item.new.out.items c.loop-item.invariant c.loop-item-test.true c.item-item.is
    c.in_ok-in_item.ensures

pub returns : goal.returns
returns c = all_read (λ x. in_item (item x)) c.args.items.now c.loop-item.item-index c.args.out.now.items c.loop-item.out.items _ c.loop-item.invariant c.loop-item-test.false refl
