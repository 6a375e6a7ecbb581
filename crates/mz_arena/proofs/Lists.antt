-- Steps of loops over lists of integers and of sets.
use Rattle.std.proofs.Common.{◌≡◌, ℕ, ◌-◌, ◌<◌, ◌≤◌, List, [], ◌∷◌, get_or, slice_get, length, Some, sym, ap, ◌∙◌}
use Rattle.std.proofs.lemmas.Option.{slice_get-get_or}
use Rattle.mz_interval.specs.Ends.{Ends}
use Rattle.mz_operations.specs.declared.row.Side.{Side}
use Rattle.mz_operations.specs.Bounds.{toward_ends, extreme_from}

-- an element that was read is there
pub there : {A : Type 0} (xs : List A) (i : ℕ) (x : A) → i < length xs → x ≡ get_or xs i x → slice_get xs i ≡ Some x
there xs i x l h = slice_get-get_or xs i x l ∙ ap (λ y. Some y) (sym h)

pub extreme_step : (side : Side) (acc a e : Ends) (xs es : List Ends) (all : Ends) → xs ≡ e ∷ es → a ≡ toward_ends side acc e → extreme_from side acc xs ≡ all → extreme_from side a es ≡ all
unfolding extreme_from
extreme_step side acc a e xs es all h k m = ap (λ b. extreme_from side b es) k ∙ sym (ap (extreme_from side acc) h) ∙ m

pub extreme_end : (side : Side) (acc : Ends) (xs : List Ends) (all : Ends) → xs ≡ [] → extreme_from side acc xs ≡ all → acc ≡ all
unfolding extreme_from
extreme_end side acc xs all h m = sym (ap (extreme_from side acc) h) ∙ m
