use Rattle.std.proofs.Common.{arith}
use Rattle.mz_value.proofs.value.Value.TheLaws.{the_size}
use Rattle.mz_value.proofs.Showable.{item_below}
use Rattle.mz_eval_row_cells.proofs.showing.+showable.Goals as goal

pub are_showable-is_showable-requires : goal.are_showable-is_showable-requires
are_showable-is_showable-requires t c =
    let bound = item_below the_size c.args.items.now c.loop-x.x-index c.x-item.result (omega arith) c.x-item.is in
    omega (arith, bound)
