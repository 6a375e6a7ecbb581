use Rattle.std.proofs.Common.{◌∷◌, get_or, pos}
use Rattle.fz_text.specs.Spelling.{interval}
use Rattle.fz_text.proofs.Appends.{comma_joined, loop_joined_at, pieces_end}
use Rattle.fz_text.proofs.array.push_more_intervals.Goals as goal

pub loop-r-preserved : goal.loop-r-preserved
loop-r-preserved c =
    let piece = comma_joined c.loop-r.out.items (interval (get_or c.args.ranges.now c.loop-r.r-index (pos 0, pos 0))) c.in-Ok.ensures c.in-Ok-push_interval.ensures in
    loop_joined_at (λ x. 44 ∷ interval x) c.args.ranges.now c.loop-r.r-index (pos 0, pos 0) c.args.out.now.items c.loop-r-test.true c.loop-r.invariant piece

pub returns : goal.returns
returns c =
    pieces_end (λ x. 44 ∷ interval x) c.args.ranges.now c.loop-r.r-index c.args.out.now.items c.loop-r.out.items c.loop-r-test.false c.loop-r.invariant
