use Rattle.fz_program.specs.Arguments.{plain}
use Rattle.flat_reif_rows.proofs.Folded.{not_given, counted_given}
use Rattle.flat_reif_rows.proofs.fold.fold_of_one.Goals as goal

pub returns-in-Not : goal.returns-in-Not
returns-in-Not c = not_given c.args.kind (plain c.args.a.now) c.truth_in.result c.negated.result c.in-Not.is c.truth_in.ensures c.negated.ensures

pub returns-in-ToInt : goal.returns-in-ToInt
returns-in-ToInt c = counted_given c.args.kind (plain c.args.a.now) c.truth_in-in-ToInt.result c.counted.result c.in-ToInt.is c.truth_in-in-ToInt.ensures c.counted.ensures
