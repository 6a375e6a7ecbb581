use Rattle.mz_arena_blocks.proofs.Placed.{no_lists}
use Rattle.mz_arena_blocks.proofs.blocks.Blocks.new.Goals as goal

pub returns : goal.returns
returns g c = no_lists c.new.result.items c.new.ensures.items
