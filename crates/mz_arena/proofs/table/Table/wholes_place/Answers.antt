use Rattle.std.proofs.Common.{arith, ap, sym, ◌∙◌}
use Rattle.mz_arena.specs.Tables.{wholes_in, known}
use Rattle.mz_arena.proofs.Lists.{there}
use Rattle.mz_arena.proofs.Telling.{no_wholes, extent_past}
use Rattle.mz_arena.proofs.table.Table.wholes_place.Goals as goal

pub returns-then-has_wholes : goal.returns-then-has_wholes
returns-then-has_wholes c =
    let place = c.requires.listed.wholes.each c.args.id c.index-stored.result.now (there c.args.self.now.stored.items c.args.id c.index-stored.result.now (omega (arith, c.args.self.now.stored.ok.0)) c.index-stored.ensures) (sym c.has_wholes.ensures ∙ c.if-has_wholes.true) in
    record { within = place.within; is = place.is }

pub returns-else-has_wholes : goal.returns-else-has_wholes
returns-else-has_wholes c = record {
  within = c.requires.listed.wholes.some;
  is = c.requires.listed.wholes.empty ∙ sym (no_wholes c.args.self.now.sets.items c.index-stored.result.now.reach (known c.args.self.now c.args.id) (c.requires.sound.tells c.args.id c.index-stored.result.now (there c.args.self.now.stored.items c.args.id c.index-stored.result.now (omega (arith, c.args.self.now.stored.ok.0)) c.index-stored.ensures)) (sym c.has_wholes.ensures ∙ c.if-has_wholes.false));
}

pub returns-else-id-len : goal.returns-else-id-len
returns-else-id-len c = record {
  within = c.requires.listed.wholes.some;
  is = c.requires.listed.wholes.empty ∙ sym (ap wholes_in (extent_past c.args.self.now.sets.items c.args.self.now.stored.items c.args.id (omega (arith, c.args.self.now.stored.ok.0))));
}
