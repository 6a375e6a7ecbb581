use Rattle.std.proofs.Common.{◌≡◌, ◌∷◌, [], subst, sym, rules, w64, to_z, of_z}
use Rattle.std.proofs.lemmas.Int.{to_z-of_z}
use Rattle.fz_program.specs.Arguments.{plain, int}
use Rattle.fz_build.proofs.Lists.{if_ok_weaker}
use Rattle.flat_reif_rows.specs.Making.{AreOperands, Makes}
use Rattle.flat_reif_rows.proofs.making.made_of_two.Goals as goal

pub made_of_first_factor-requires-clause-product : goal.made_of_first_factor-requires-clause-product
made_of_first_factor-requires-clause-product c = c.in-Some.ensures.product

pub made_of_first_factor-requires-clause-operands : goal.made_of_first_factor-requires-clause-operands
made_of_first_factor-requires-clause-operands c =
    let same : to_z w64 (of_z w64 c.in-Some.n) ≡ c.in-Some.n = to_z-of_z w64 c.in-Some.n (search rules) in
    subst (λ m. AreOperands c.args.build.now.vars c.args.kind (int m ∷ plain c.args.b ∷ [])) (sym same)
    (subst (λ q. AreOperands c.args.build.now.vars c.args.kind (q ∷ plain c.args.b ∷ [])) c.in-Some.ensures.number c.requires.operands)

pub returns-in-Some-clause-makes : goal.returns-in-Some-clause-makes
returns-in-Some-clause-makes c =
    let same : to_z w64 (of_z w64 c.in-Some.n) ≡ c.in-Some.n = to_z-of_z w64 c.in-Some.n (search rules) in
    if_ok_weaker c.made_of_first_factor.result _ _ (λ out m.
    subst (λ q. Makes c.args.build.now c.made_of_first_factor.new.build c.args.kind (q ∷ plain c.args.b ∷ []) (plain out)) (sym c.in-Some.ensures.number)
    (subst (λ j. Makes c.args.build.now c.made_of_first_factor.new.build c.args.kind (int j ∷ plain c.args.b ∷ []) (plain out)) same m)) c.made_of_first_factor.ensures.makes
