-- Lists of which one is at its end.
use Rattle.std.proofs.Common.{◌≡◌, ℕ, ◌+◌, ◌<◌, ◌≤◌, ℤ, pos, List, [], ◌∷◌, length, get_or, drop, Bool, true, false, sym, ◌∙◌}
use Rattle.std.proofs.lemmas.List.{at_drop_more, at_drop_all}
use Rattle.mz_globals.specs.Order.{comes_before}

pub longer : (equal : Bool) (xs ys : List ℤ) (k : ℕ) (whole : Bool) → k < length xs → length ys ≤ k → comes_before equal (drop k xs) (drop k ys) ≡ whole → false ≡ whole
longer equal xs ys k whole l m e =
    let first = at_drop_more (λ zs. comes_before equal zs (drop k ys)) xs k (pos 0) l in
    let second = at_drop_all (λ zs. comes_before equal (get_or xs k (pos 0) ∷ drop (k + 1) xs) zs) ys k m in
    sym (first ∙ second) ∙ e

pub shorter : (equal : Bool) (xs ys : List ℤ) (k : ℕ) (whole : Bool) → length xs ≤ k → k < length ys → comes_before equal (drop k xs) (drop k ys) ≡ whole → true ≡ whole
shorter equal xs ys k whole l m e =
    let first = at_drop_all (λ zs. comes_before equal zs (drop k ys)) xs k l in
    let second = at_drop_more (λ zs. comes_before equal [] zs) ys k (pos 0) m in
    sym (first ∙ second) ∙ e
