use Rattle.std.proofs.Common.{arith, sym, ◌∙◌}
use Rattle.mz_arena.proofs.Lists.{there}
use Rattle.mz_arena.proofs.Telling.{long_wholes, no_wholes, extent_past}
use Rattle.mz_arena.specs.Tables.{wholes_in, known}
use Rattle.std.proofs.Common.{ap}
use Rattle.mz_arena.proofs.table.Table.wholes_node.Goals as goal

pub returns-then-has_wholes : goal.returns-then-has_wholes
returns-then-has_wholes c =
    long_wholes c.args.self.now.sets.items c.args.self.now.stored.items c.args.id c.index-stored.result.now c.requires
    (there c.args.self.now.stored.items c.args.id c.index-stored.result.now (omega (arith, c.args.self.now.stored.ok.0)) c.index-stored.ensures)
    (sym c.has_wholes.ensures ∙ c.if-has_wholes.true)

pub returns-else-has_wholes : goal.returns-else-has_wholes
returns-else-has_wholes c =
    no_wholes c.args.self.now.sets.items c.index-stored.result.now.reach (known c.args.self.now c.args.id)
    (c.requires.tells c.args.id c.index-stored.result.now (there c.args.self.now.stored.items c.args.id c.index-stored.result.now (omega (arith, c.args.self.now.stored.ok.0)) c.index-stored.ensures))
    (sym c.has_wholes.ensures ∙ c.if-has_wholes.false)

pub returns-else-id-len : goal.returns-else-id-len
returns-else-id-len c = ap wholes_in (extent_past c.args.self.now.sets.items c.args.self.now.stored.items c.args.id (omega (arith, c.args.self.now.stored.ok.0)))
