use Rattle.std.proofs.Common.{length}
use Rattle.mz_partial.proofs.Filling.{filled_first, filled_both}
use Rattle.mz_partial.proofs.memo.fill.Goals as goal

pub loop-alloc-init : goal.loop-alloc-init
loop-alloc-init c = filled_first c.args.arena.now c.args.parts.now.items c.len-count.ensures.arena c.requires.memo

pub loop-alloc-preserved : goal.loop-alloc-preserved
loop-alloc-preserved c = filled_both c.args.arena.now c.loop-alloc.arena c.next_part.new.arena (length c.args.parts.now.items) c.loop-alloc.parts.items c.next_part.new.parts.items c.loop-alloc.invariant c.in_ok-next_part.ensures.filled
