-- What the code's givens stand for.
use Rattle.std.specs.Prelude.{List, [], ◌∷◌, map, Option, Some, None}
use Rattle.mz_value.specs.Ranges.{Range}
use Rattle.mz_value.specs.Contents.{Content}
use Rattle.mz_interval.specs.Ends.{Ends}
use Rattle.mz_operations.specs.Bounds.{bound_of}
use Rattle.mz_globals.specs.Givens.{Given, ends_in_all}
use Rattle.mz_eval_globals.specs.declared.apply.givens.Given as code

abbrev pub plain_given : code.Given → Given
plain_given g = record { index = g.index.items; ends = g.ends.items }

abbrev pub option_list : {A : Type 0} → Option A → List A
option_list None = []
option_list (Some x) = x ∷ []

-- of an array, and of what is none
abbrev pub array_given : List Range → List Content → Given
array_given ix xs = record { index = ix; ends = ends_in_all (map bound_of xs) }

abbrev pub one_given : List Ends → Given
one_given es = record { index = []; ends = es }
