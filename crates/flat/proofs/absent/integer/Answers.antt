use Rattle.std.proofs.Common.{refl, w64}
use Rattle.std.proofs.lemmas.Int.{to_z-of_z}
use Rattle.mz_partial.proofs.Asked.{asked_number}
use Rattle.mz_partial.proofs.Making.{number_placed}
use Rattle.flat.proofs.absent.integer.Goals as goal

pub make-requires-clause-asked : goal.make-requires-clause-asked
make-requires-clause-asked c = asked_number c.args.arena.now _ c.args.number refl (to_z-of_z w64 c.args.number c.ranges.number) c.requires

pub returns : goal.returns
returns c = number_placed c.args.arena.now c.make.new.arena _ c.in-Ok.x c.args.number refl (to_z-of_z w64 c.args.number c.ranges.number) c.requires c.in-Ok.ensures.placed c.in-Ok.ensures.stands
