use Rattle.fz_program.specs.Arguments.{plain}
use Rattle.flat_reif_rows.proofs.Folded.{comparison_given}
use Rattle.flat_reif_rows.proofs.fold.comparison.Goals as goal

pub returns : goal.returns
returns c = comparison_given c.args.build.now.vars c.args.kind (plain c.args.a.now) (plain c.args.b.now) c.requires c.compared.result c.ends.result c.ends-2.result c.fold_of_answer.result c.ends.ensures.is c.ends-2.ensures.is c.ends.ensures.encloses c.ends-2.ensures.encloses c.compared.ensures c.fold_of_answer.ensures
