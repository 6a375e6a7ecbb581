use Rattle.mz_partial.proofs.Taking.{leaf_parted}
use Rattle.mz_partial.proofs.plain.leaf.Goals as goal

pub returns : goal.returns
returns c = leaf_parted c.args.arena.now c.args.memo.now c.args.id c.args.n c.requires
