use Rattle.mz_eval_arrays.proofs.Missing.{missing_told}
use Rattle.mz_eval_arrays.proofs.arrays.missing_line.Goals as goal

pub returns : goal.returns
returns c r = missing_told r c.args.all.now c.in_ok-ranges.ranges.items c.in_ok-bounds.bounds.items c.in_ok-k.k c.requires.open c.requires.missing c.in_ok-ranges.ensures c.in_ok-bounds.ensures (c.in_ok-k.ensures.seen r)
