use Rattle.mz_builtin_arguments.proofs.Sets.{if_difference}
use Rattle.mz_builtin_arguments.proofs.set.difference.Goals as goal

pub returns : goal.returns
returns c =
    if_difference c.diff.result c.args.a.now c.args.b.now (c.ranges-a.ensures.canonical, c.ranges-a.ensures.limits) (c.ranges-b.ensures.canonical, c.ranges-b.ensures.limits) c.diff.ensures.members c.diff.ensures.canonical
