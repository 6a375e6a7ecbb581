use Rattle.fz_program.specs.Arguments.{argument}
use Rattle.fz_build.proofs.Lists.{if_ok_weaker}
use Rattle.flat_reif_rows.proofs.Operands.{one_may, one_makes}
use Rattle.flat_reif_rows.proofs.making.made_of_one.Goals as goal

pub defined-requires : goal.defined-requires
defined-requires c = one_may c.args.kind c.args.name c.requires.row (argument c.args.a) c.args.build.now c.requires.operands

pub returns-clause-makes : goal.returns-clause-makes
returns-clause-makes c =
    if_ok_weaker c.defined.result _ _ (λ out g. one_makes c.args.kind c.args.name c.requires.row (argument c.args.a) c.args.build.now c.defined.new.build (argument out) c.requires.operands g) c.defined.ensures.gives
