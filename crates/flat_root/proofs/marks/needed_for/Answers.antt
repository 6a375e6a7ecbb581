use Rattle.std.proofs.Common.{subst}
use Rattle.flat_root.specs.Marks.{Covers}
use Rattle.flat_root.proofs.Marking.{all_kept, closes_needed, only_these}
use Rattle.flat_root.proofs.marks.needed_for.Goals as goal

pub close-requires : goal.close-requires
close-requires c = only_these c.args.arena.now c.add_all.new.need c.args.ids.now c.requires (subst (λ m. Covers m c.add_all.new.need c.args.ids.now) c.new-need.ensures c.in-Ok.ensures)

pub returns-clause-needed : goal.returns-clause-needed
returns-clause-needed c = closes_needed c.args.arena.now c.add_all.new.need c.close.new.need c.in-Ok-close.ensures

pub returns-clause-each : goal.returns-clause-each
returns-clause-each c = all_kept c.add_all.new.need c.close.new.need c.args.ids.now c.in-Ok-close.ensures.keeps c.in-Ok.ensures.adds
