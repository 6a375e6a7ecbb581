use Rattle.std.proofs.Common.{take}
use Rattle.flat_root.specs.Marks.{Covers}
use Rattle.flat_root.proofs.marks.add_all.Given as goal

abbrev pub invariant-ids : goal.invariant-ids
invariant-ids l = Covers l.fn.need l.need (take l.id-index l.ids)
