use Rattle.std.proofs.Common.{[], ◌∷◌}
use Rattle.flat_root.proofs.Marking.{covers_then, on_ok_on}
use Rattle.flat_root.proofs.marks.add_three.Goals as goal

pub returns : goal.returns
returns c = on_ok_on c.add_two.result _ _ (covers_then c.args.need.now c.add_one.new.need c.add_two.new.need c.args.a (c.args.b ∷ c.args.c ∷ []) c.in-Ok.ensures) c.add_two.ensures
