use Rattle.std.proofs.Common.{◌≡◌, ◌∷◌, ◌++◌, [], ap, map, ◌∙◌, negsuc, refl}
use Rattle.fz_program.specs.declared.program.Arg.{Int, the_lemmas}
use Rattle.fz_program.specs.Arguments.{argument, array, int, plain, plains}
use Rattle.fz_build.specs.Inputs.{elements_at}
use Rattle.fz_build.specs.Build.{coefficients_with}
use Rattle.fz_build.proofs.Lists.{if_ok_weaker}
use Rattle.fz_build.proofs.result_row.coefficients_with.Goals as goal

minus_one : plain (Int (negsuc 0)) ≡ int (negsuc 0)
minus_one = simp the_lemmas refl

pub returns : goal.returns
returns c =
    let inputs = map argument c.args.inputs.now in
    let same = ap (λ xs. array (xs ++ plain (Int (negsuc 0)) ∷ [])) c.elements_at.ensures ∙ ap (λ p. array (elements_at inputs 0 ++ p ∷ [])) minus_one in
    if_ok_weaker c.with_element.result (λ a. argument a ≡ array (plains c.elements_at.result.now ++ plain (Int (negsuc 0)) ∷ [])) (λ a. argument a ≡ coefficients_with inputs) (λ a e. e ∙ same) c.with_element.ensures
