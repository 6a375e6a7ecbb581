use Rattle.mz_arena.specs.Extents.{as_subset}
use Rattle.mz_arena.specs.Tables.{known}
use Rattle.mz_arena.proofs.Pushed.{const_given, not_given, set_given}
use Rattle.mz_arena.proofs.arena.Arena.set.Goals as goal

pub unreachable-requires : goal.unreachable-requires
unreachable-requires c =
    not_given (as_subset (known c.self.inside.table c.args.id)) c.requires.there.set (const_given c.self.inside.table.sets.items c.self.inside.table.stored.items c.args.self.now c.args.id c.self.invariant.table c.self.view_is c.requires) c.in-None.ensures

pub returns : goal.returns
returns c =
    set_given c.self.inside.table.sets.items c.args.self.now c.args.id c.in-Some.place c.requires (as_subset (known c.self.inside.table c.args.id)) c.index.result.now
    (const_given c.self.inside.table.sets.items c.self.inside.table.stored.items c.args.self.now c.args.id c.self.invariant.table c.self.view_is c.requires)
    c.in-Some.ensures.1 c.in-Some.ensures.0 c.index.ensures
