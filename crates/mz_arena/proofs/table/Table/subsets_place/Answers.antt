use Rattle.std.proofs.Common.{arith, ap, sym, ◌∙◌}
use Rattle.mz_arena.specs.Tables.{subsets_in, known}
use Rattle.mz_arena.proofs.Lists.{there}
use Rattle.mz_arena.proofs.Telling.{no_subset_list, extent_past}
use Rattle.mz_arena.proofs.table.Table.subsets_place.Goals as goal

pub returns-then-has_subsets : goal.returns-then-has_subsets
returns-then-has_subsets c =
    let place = c.requires.listed.subsets.each c.args.id c.index-stored.result.now (there c.args.self.now.stored.items c.args.id c.index-stored.result.now (omega (arith, c.args.self.now.stored.ok.0)) c.index-stored.ensures) (sym c.has_subsets.ensures ∙ c.if-has_subsets.true) in
    record { within = place.within; is = place.is }

pub returns-else-has_subsets : goal.returns-else-has_subsets
returns-else-has_subsets c = record {
  within = c.requires.listed.subsets.some;
  is = c.requires.listed.subsets.empty ∙ sym (no_subset_list c.args.self.now.sets.items c.index-stored.result.now.reach (known c.args.self.now c.args.id) (c.requires.sound.tells c.args.id c.index-stored.result.now (there c.args.self.now.stored.items c.args.id c.index-stored.result.now (omega (arith, c.args.self.now.stored.ok.0)) c.index-stored.ensures)) (sym c.has_subsets.ensures ∙ c.if-has_subsets.false));
}

pub returns-else-id-len : goal.returns-else-id-len
returns-else-id-len c = record {
  within = c.requires.listed.subsets.some;
  is = c.requires.listed.subsets.empty ∙ sym (ap subsets_in (extent_past c.args.self.now.sets.items c.args.self.now.stored.items c.args.id (omega (arith, c.args.self.now.stored.ok.0))));
}
