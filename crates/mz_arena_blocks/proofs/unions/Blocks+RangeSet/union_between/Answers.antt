use Rattle.std.proofs.Common.{drop}
use Rattle.mz_arena_blocks.specs.Lists.{list_at}
use Rattle.mz_arena_blocks.proofs.Instances.{union_of_part}
use Rattle.mz_arena_blocks.proofs.unions.Blocks+RangeSet.union_between.Goals as goal

pub returns-clause-is : goal.returns-clause-is
returns-clause-is c =
    union_of_part c.in_ok-union.union c.in_ok-nothing.nothing c.args.count (list_at c.args.self.now c.skip-start.result) (drop c.args.skipped (list_at c.args.self.now c.args.list)) c.in_ok-nothing.ensures c.skip-start.ensures.rest c.in_ok-union.ensures.together
