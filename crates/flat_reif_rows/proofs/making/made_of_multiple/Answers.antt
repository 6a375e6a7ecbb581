use Rattle.std.proofs.Common.{◌≡◌, ap, map, subst, sym, ◌∙◌, rules, w64}
use Rattle.std.proofs.lemmas.Int.{to_z-of_z}
use Rattle.fz_program.specs.declared.row_name.RowName.TheVariants.{IntLinEq}
use Rattle.fz_program.specs.Arguments.{argument, plain}
use Rattle.fz_build.proofs.Lists.{if_ok_weaker}
use Rattle.flat_reif_rows.specs.NodeRows.{multiple_inputs}
use Rattle.flat_reif_rows.specs.Making.{MayGive, Gives}
use Rattle.flat_reif_rows.proofs.SumOperands.{multiple_may, multiple_makes}
use Rattle.flat_reif_rows.proofs.making.made_of_multiple.Goals as goal

pub defined-requires : goal.defined-requires
defined-requires c =
    subst (MayGive c.args.build.now IntLinEq) (sym (ap (map argument) c.deref.ensures.value ∙ c.in-Ok.ensures ∙ ap (λ z. multiple_inputs z (argument c.args.a)) (to_z-of_z w64 c.args.n (search rules)))) (multiple_may c.args.n (argument c.args.a) c.args.build.now c.requires)

pub returns-clause-makes : goal.returns-clause-makes
returns-clause-makes c =
    let same : map argument c.deref.result.now ≡ multiple_inputs c.args.n (argument c.args.a) = ap (map argument) c.deref.ensures.value ∙ c.in-Ok.ensures ∙ ap (λ z. multiple_inputs z (argument c.args.a)) (to_z-of_z w64 c.args.n (search rules)) in
    if_ok_weaker c.defined.result _ _ (λ out g. multiple_makes c.args.n (argument c.args.a) c.args.build.now c.defined.new.build (argument out) c.requires
    (subst (λ is. Gives c.args.build.now c.defined.new.build IntLinEq is (plain out)) same g)) c.defined.ensures.gives
