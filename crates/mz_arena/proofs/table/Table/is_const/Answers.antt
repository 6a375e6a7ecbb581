use Rattle.std.proofs.Common.{sym, ◌∙◌, arith}
use Rattle.mz_arena.proofs.Tested.{const_seen, none_seen}
use Rattle.mz_arena.proofs.table.Table.is_const.Goals as goal

pub returns-then-id-len : goal.returns-then-id-len
returns-then-id-len c =
    c.is_set_const.ensures ∙ sym (const_seen c.args.self.now.sets.items c.args.self.now.stored.items c.args.id c.index.result.now (omega (arith, c.args.self.now.stored.ok.0)) c.index.ensures)

pub returns-else-id-len : goal.returns-else-id-len
returns-else-id-len c = sym (none_seen c.args.self.now.sets.items c.args.self.now.stored.items c.args.id (omega (arith, c.args.self.now.stored.ok.0)))
