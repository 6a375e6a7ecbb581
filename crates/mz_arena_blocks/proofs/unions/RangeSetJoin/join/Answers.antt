use Rattle.mz_operations.proofs.SetMembers.{union_is}
use Rattle.mz_arena_blocks.proofs.unions.RangeSetJoin.join.Goals as goal

pub returns : goal.returns
returns c = union_is c.args.self.now c.args.other.now c.in_ok-union.union c.requires.first c.requires.second c.in_ok-union.ensures.members c.in_ok-union.ensures.canonical
