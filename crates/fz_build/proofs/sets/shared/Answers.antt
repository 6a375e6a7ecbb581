use Rattle.mz_operations.proofs.SetMembers.{intersection_is}
use Rattle.fz_build.proofs.sets.shared.Goals as goal

pub returns : goal.returns
returns c =
    let first = c.ranges-first.ensures in
    let second = c.ranges-second.ensures in
    let made = c.in_ok-intersect.ensures in
    intersection_is c.args.a.now c.args.b.now c.in_ok-intersect.field-0 (first.canonical, first.limits) (second.canonical, second.limits) made.members made.canonical
