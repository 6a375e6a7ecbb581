use Rattle.mz_builtin_arguments.proofs.Sets.{if_union}
use Rattle.mz_builtin_arguments.proofs.set.union.Goals as goal

pub returns : goal.returns
returns c =
    if_union c.union.result c.args.a.now c.args.b.now (c.ranges-a.ensures.canonical, c.ranges-a.ensures.limits) (c.ranges-b.ensures.canonical, c.ranges-b.ensures.limits) c.union.ensures.members c.union.ensures.canonical
