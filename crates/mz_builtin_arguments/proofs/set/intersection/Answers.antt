use Rattle.mz_builtin_arguments.proofs.Sets.{if_intersection}
use Rattle.mz_builtin_arguments.proofs.set.intersection.Goals as goal

pub returns : goal.returns
returns c =
    if_intersection c.intersect.result c.args.a.now c.args.b.now (c.ranges-a.ensures.canonical, c.ranges-a.ensures.limits) (c.ranges-b.ensures.canonical, c.ranges-b.ensures.limits) c.intersect.ensures.members c.intersect.ensures.canonical
