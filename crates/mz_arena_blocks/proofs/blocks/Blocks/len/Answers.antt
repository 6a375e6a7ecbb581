use Rattle.std.proofs.Common.{arith}
use Rattle.mz_arena_blocks.proofs.Placed.{seen_length}
use Rattle.mz_arena_blocks.proofs.blocks.Blocks.len.Goals as goal

pub returns : goal.returns
returns g c = let h = seen_length c.self.inside.rows.items c.args.self.now c.self.view_is in omega (arith, h, c.self.inside.rows.ok.0)
