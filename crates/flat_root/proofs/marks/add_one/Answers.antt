use Rattle.flat_root.proofs.Marking.{covers_one, on_ok_on}
use Rattle.flat_root.proofs.marks.add_one.Goals as goal

pub returns : goal.returns
returns c = on_ok_on c.add.result _ _ (covers_one c.args.need.now c.add.new.self c.args.a) c.add.ensures.added
