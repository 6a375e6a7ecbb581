-- Lists of values.
use Rattle.std.proofs.Common.{◌≡◌, ◌∙◌, List, [], ◌∷◌, ◌++◌, ℕ, map, length, true, refl, sym, ap, append_assoc, append-nil}
use Rattle.std.specs.Prelude.{pos, Option, Some, None, option_map}
use Rattle.std.proofs.lemmas.List.{length-map}
use Rattle.mz_value.specs.Ranges.{Range}
use Rattle.mz_value.specs.declared.value.Value.{Value}
use Rattle.mz_value.specs.Contents.{Content, content, contents}
use Rattle.mz_value.specs.Contents as values
use Rattle.mz_operations.specs.Arrays.{line}
use Rattle.mz_meaning.specs.Cells.{Bare, par_value, all_par, value_of}
use Rattle.mz_meaning.specs.Arrays.{all_there, line_cell}
use Rattle.mz_eval_arrays.specs.StepsJoining.{values_from}

regroup : (acc : List Content) (x : Content) (o : Option (List Content)) → option_map (λ xs. (acc ++ x ∷ []) ++ xs) o ≡ option_map (λ xs. acc ++ xs) (option_map (λ xs. x ∷ xs) o)
regroup acc x None = refl
regroup acc x (Some ys) = ap Some (append_assoc acc (x ∷ []) ys)

from_is : (acc : List Content) (vs : List (Option Content)) → values_from acc vs ≡ option_map (λ xs. acc ++ xs) (all_there vs)
unfolding values_from
from_is acc [] = ap Some (sym (append-nil acc))
from_is acc (None ∷ vs) = refl
from_is acc (Some x ∷ vs) = from_is (acc ++ x ∷ []) vs ∙ regroup acc x (all_there vs)

whole : (o : Option (List Content)) → option_map (λ xs. [] ++ xs) o ≡ o
whole None = refl
whole (Some xs) = refl

pub all_from_nothing : (vs : List (Option Content)) → values_from [] vs ≡ all_there vs
all_from_nothing vs = from_is [] vs ∙ whole (all_there vs)

-- ---- values that are there

all_values_par : {X : Type 0} (f : X → Content) (xs : List X) → all_par (map (λ x. par_value (f x)) xs) ≡ true
all_values_par f [] = refl
all_values_par f (x ∷ xs) = all_values_par f xs

all_values_there : {X : Type 0} (f : X → Content) (xs : List X) → all_there (map value_of (map (λ x. par_value (f x)) xs)) ≡ Some (map f xs)
all_values_there f [] = refl
all_values_there f (x ∷ xs) = ap (option_map (λ ys. f x ∷ ys)) (all_values_there f xs)

pub line_of_values : {X : Type 0} (f : X → Content) (xs : List X) → line_cell Bare (map (λ x. par_value (f x)) xs) ≡ par_value (line (map f xs))
line_of_values f xs = rw (all_values_par f xs, all_values_there f xs) refl

-- ---- arrays indexed from 1

pub line_made : (xs : List Value) (ix : List Range) (n : ℕ) → ix ≡ (pos 1, pos n) ∷ [] → n ≡ length xs → values.array ix (contents (map content xs)) ≡ line (map content xs)
line_made xs ix n e f =
    ap (λ jx. values.array jx (contents (map content xs))) e
    ∙ ap (λ k. values.array ((pos 1, pos k) ∷ []) (contents (map content xs))) (f ∙ sym (length-map xs content))
