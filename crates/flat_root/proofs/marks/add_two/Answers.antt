use Rattle.std.proofs.Common.{[], ◌∷◌}
use Rattle.flat_root.proofs.Marking.{covers_then, on_ok_on}
use Rattle.flat_root.proofs.marks.add_two.Goals as goal

pub returns : goal.returns
returns c = on_ok_on c.add_one-2.result _ _ (covers_then c.args.need.now c.add_one.new.need c.add_one-2.new.need c.args.a (c.args.b ∷ []) c.in-Ok.ensures) c.add_one-2.ensures
