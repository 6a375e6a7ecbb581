use Rattle.std.proofs.Common.{arith}
use Rattle.mz_value.proofs.value.Value.TheLaws.{the_size}
use Rattle.mz_value.proofs.Showable.{item_below}
use Rattle.mz_builtin_arguments.proofs.copy.+copies.Goals as goal

pub copied_items-copied-requires : goal.copied_items-copied-requires
copied_items-copied-requires t c =
    let bound = item_below the_size c.args.items.now c.loop-x.x-index c.x-item.result (omega arith) c.x-item.is in
    omega (arith, bound)
