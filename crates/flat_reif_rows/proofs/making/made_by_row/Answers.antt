use Rattle.std.proofs.Common.{◌≡◌, ap, map, subst, sym, ◌∙◌}
use Rattle.fz_program.specs.Arguments.{argument, plain}
use Rattle.fz_build.proofs.Lists.{if_ok_weaker}
use Rattle.flat_reif_rows.specs.NodeRows.{inputs_of_two}
use Rattle.flat_reif_rows.specs.Making.{MayGive, Gives}
use Rattle.flat_reif_rows.proofs.Operands.{two_may, two_makes}
use Rattle.flat_reif_rows.proofs.making.made_by_row.Goals as goal

pub defined-requires : goal.defined-requires
defined-requires c =
    subst (MayGive c.args.build.now c.args.name) (sym (ap (map argument) c.deref.ensures.value ∙ c.in-Ok.ensures)) (two_may c.args.kind c.args.name c.requires.row (argument c.args.a) (argument c.args.b) c.args.build.now c.requires.operands c.requires.divisor)

pub returns-clause-makes : goal.returns-clause-makes
returns-clause-makes c =
    let same : map argument c.deref.result.now ≡ inputs_of_two c.args.kind (argument c.args.a) (argument c.args.b) = ap (map argument) c.deref.ensures.value ∙ c.in-Ok.ensures in
    if_ok_weaker c.defined.result _ _ (λ out g. two_makes c.args.kind c.args.name c.requires.row (argument c.args.a) (argument c.args.b) c.args.build.now c.defined.new.build (argument out) c.requires.operands c.requires.divisor
    (subst (λ is. Gives c.args.build.now c.defined.new.build c.args.name is (plain out)) same g)) c.defined.ensures.gives
