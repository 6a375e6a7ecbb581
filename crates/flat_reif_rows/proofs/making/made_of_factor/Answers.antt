use Rattle.std.proofs.Common.{◌≡◌, ◌∷◌, [], subst, sym, rules, w64, to_z, of_z}
use Rattle.std.proofs.lemmas.Int.{to_z-of_z}
use Rattle.mz_arena.specs.declared.node.NodeKind.TheVariants.{Mul}
use Rattle.fz_program.specs.Arguments.{plain, int}
use Rattle.fz_build.proofs.Lists.{if_ok_weaker}
use Rattle.flat_reif_rows.specs.Making.{AreOperands, Makes}
use Rattle.flat_reif_rows.proofs.Exchanging.{exchanged_operands, exchanged_makes}
use Rattle.flat_reif_rows.proofs.making.made_of_factor.Goals as goal

pub made_of_multiple-requires : goal.made_of_multiple-requires
made_of_multiple-requires c =
    let same : to_z w64 (of_z w64 c.args.n) ≡ c.args.n = to_z-of_z w64 c.args.n (search rules) in
    subst (λ m. AreOperands c.args.build.now.vars Mul (int m ∷ plain c.args.a ∷ [])) (sym same)
    (exchanged_operands c.args.build.now.vars (plain c.args.a) (int c.args.n)
    (subst (λ k. AreOperands c.args.build.now.vars k (plain c.args.a ∷ int c.args.n ∷ [])) c.requires.product c.requires.operands))

pub returns-clause-makes : goal.returns-clause-makes
returns-clause-makes c =
    let same : to_z w64 (of_z w64 c.args.n) ≡ c.args.n = to_z-of_z w64 c.args.n (search rules) in
    if_ok_weaker c.made_of_multiple.result _ _ (λ out m.
    subst (λ k. Makes c.args.build.now c.made_of_multiple.new.build k (plain c.args.a ∷ int c.args.n ∷ []) (plain out)) (sym c.requires.product)
    (exchanged_makes c.args.build.now c.made_of_multiple.new.build (plain c.args.a) (int c.args.n) (plain out)
    (subst (λ j. Makes c.args.build.now c.made_of_multiple.new.build Mul (int j ∷ plain c.args.a ∷ []) (plain out)) same m))) c.made_of_multiple.ensures.makes
