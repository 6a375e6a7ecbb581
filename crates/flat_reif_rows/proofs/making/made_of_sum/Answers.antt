use Rattle.std.proofs.Common.{◌≡◌, ap, map, subst, sym, ◌∙◌}
use Rattle.fz_program.specs.declared.row_name.RowName.TheVariants.{IntLinEq}
use Rattle.fz_program.specs.Arguments.{argument, plain}
use Rattle.fz_build.proofs.Lists.{if_ok_weaker}
use Rattle.flat_reif_rows.specs.NodeRows.{sum_inputs}
use Rattle.flat_reif_rows.specs.Making.{MayGive, Gives}
use Rattle.flat_reif_rows.proofs.SumOperands.{sum_may, sum_makes}
use Rattle.flat_reif_rows.proofs.making.made_of_sum.Goals as goal

pub defined-requires : goal.defined-requires
defined-requires c =
    subst (MayGive c.args.build.now IntLinEq) (sym (ap (map argument) c.deref.ensures.value ∙ c.in-Ok.ensures)) (sum_may (argument c.args.a) (argument c.args.b) c.args.build.now c.requires)

pub returns-clause-makes : goal.returns-clause-makes
returns-clause-makes c =
    let same : map argument c.deref.result.now ≡ sum_inputs (argument c.args.a) (argument c.args.b) = ap (map argument) c.deref.ensures.value ∙ c.in-Ok.ensures in
    if_ok_weaker c.defined.result _ _ (λ out g. sum_makes (argument c.args.a) (argument c.args.b) c.args.build.now c.defined.new.build (argument out) c.requires
    (subst (λ is. Gives c.args.build.now c.defined.new.build IntLinEq is (plain out)) same g)) c.defined.ensures.gives
