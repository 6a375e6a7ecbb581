use Rattle.std.proofs.Common.{List, Option, sym, subst}
use Rattle.fz_items.specs.declared.outputs.Slot.{Slot}
use Rattle.soln_reader.specs.StepsUndo.{Undo, Restores}
use Rattle.soln_reader.specs.Views.{block_of}
use Rattle.soln_reader.proofs.UndoLemmas.{restores_more}
use Rattle.soln_reader.proofs.undo.note.Goals as goal

pub returns-in-Ok-clause-restores : goal.returns-in-Ok-clause-restores
returns-in-Ok-clause-restores c = λ before mid r u.
    let U : Option Slot → Type 0 = λ f. Undo f mid (block_of c.args.block.now) in
    let R : List Slot → Type 0 = λ ss. Restores ss before (block_of c.args.block.now) in
    subst R (sym c.in-Ok.ensures.items) (restores_more c.args.slots.now.items c.in-Some.slot before mid (block_of c.args.block.now) r (subst U c.in-Some.is u))
