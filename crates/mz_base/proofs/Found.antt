-- What is found among the elements of a list, and whether a word is a keyword.
use Rattle.std.proofs.Common.{◌≡◌, ℕ, List, [], ◌∷◌, Bool, true, false, refl}
use Rattle.std.specs.Prelude.{Some, find, cond, ◌||◌}
use Rattle.std.specs.Option.{is_some}
use Rattle.std.specs.List.{list_any}
use Rattle.std.specs.Str.{bytes_eq}
use Rattle.mz_base.specs.Keywords.{keyword_text, keyword_of, all_keywords}
use Rattle.mz_base.specs.Words.{is_keyword}

-- some element is found where one of them passes
pub found_any : {A : Type 0} (p : A → Bool) (xs : List A) → is_some (find p xs) ≡ list_any p xs
found_any p [] = refl
found_any p (x ∷ xs) = go (p x) (found_any p xs)
  where
    go : (t : Bool) → is_some (find p xs) ≡ list_any p xs → is_some (cond t (Some x) (find p xs)) ≡ (t || list_any p xs)
    go true e = refl
    go false e = e

pub keyword_found : (w : List ℕ) → is_some (keyword_of w) ≡ is_keyword w
unfolding keyword_of is_keyword
keyword_found w = found_any (λ k. bytes_eq (keyword_text k) w) all_keywords
