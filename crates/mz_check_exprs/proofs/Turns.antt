-- One turn of a loop over a list.
use Rattle.std.proofs.Common.{◌≡◌, ℕ, suc, ◌+◌, ◌<◌, List, ◌∷◌, Ok, map, drop, length, get_or, refl, add-one, drop-cons}
use Rattle.mz_check_meaning.specs.Tests.{Test, loop}

after_turn : {A S : Type 0} (step : S → A → Test S) (acc next : S) (x : A) (xs : List A) → step acc x ≡ Ok next → loop step acc (x ∷ xs) ≡ loop step next xs
after_turn step acc next x xs e = rw e refl

pub loop_turn : {A S : Type 0} (step : S → A → Test S) (acc next : S) (xs : List A) (i : ℕ) (x : A) → i < length xs → x ≡ get_or xs i x → step acc x ≡ Ok next → loop step acc (drop i xs) ≡ loop step next (drop (i + 1) xs)
loop_turn step acc next xs i x h is e = rw (add-one, drop-cons xs i x h, ← is) (after_turn step acc next x (drop (suc i) xs) e)

pub mapped_turn : {A B S : Type 0} (step : S → B → Test S) (f : A → B) (acc next : S) (xs : List A) (i : ℕ) (x : A) → i < length xs → x ≡ get_or xs i x → step acc (f x) ≡ Ok next → loop step acc (map f (drop i xs)) ≡ loop step next (map f (drop (i + 1) xs))
mapped_turn step f acc next xs i x h is e = rw (add-one, drop-cons xs i x h, ← is) (after_turn step acc next (f x) (map f (drop (suc i) xs)) e)
