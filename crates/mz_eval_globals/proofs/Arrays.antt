-- What is known of an array.
use Rattle.std.proofs.Common.{◌≡◌, List, map, ap, sym, ◌∙◌}
use Rattle.std.specs.Prelude.{Result, Ok, Err, Some, IfOk}
use Rattle.mz_value.specs.Ranges.{Range}
use Rattle.mz_value.specs.Contents.{Content, array, contents}
use Rattle.mz_operations.specs.Bounds.{bound_of, bounds_of}
use Rattle.mz_builtin_arguments.proofs.Views.{items_in_contents}
use Rattle.mz_globals.specs.Givens.{Given, ends_in_all, given_of}
use Rattle.mz_eval_globals.specs.Views.{plain_given, array_given}
use Rattle.mz_eval_globals.specs.declared.apply.givens.Given as code

array_is : (ix : List Range) (xs : List Content) → array_given ix xs ≡ given_of (Some (array ix (contents xs)))
unfolding bounds_of
array_is ix xs = sym (ap (array_given ix) (items_in_contents xs))

pub if_array : {E : Type 0} (r : Result code.Given E) (ix : List Range) (xs : List Content) (x : Content) → x ≡ array ix (contents xs) → IfOk r (λ g. plain_given g ≡ array_given ix xs) → IfOk r (λ g. plain_given g ≡ given_of (Some x))
if_array (Ok g) ix xs x e h = h ∙ array_is ix xs ∙ sym (ap (λ y. given_of (Some y)) e)
if_array (Err e) ix xs x p h = tt
