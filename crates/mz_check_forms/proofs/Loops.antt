-- Loops over lists that stand one after the other.
use Rattle.std.proofs.Common.{◌≡◌, ◌∙◌, List, [], ◌∷◌, ◌++◌, Ok, Err, refl}
use Rattle.std.specs.List.{flat_map}
use Rattle.mz_check_meaning.specs.Tests.{Test, ◌>>=◌, loop}

after_step : {A S : Type 0} (step : S → A → Test S) (r : Test S) (xs ys : List A) → ((n : S) → loop step n (xs ++ ys) ≡ (loop step n xs >>= λ a. loop step a ys)) → (r >>= λ n. loop step n (xs ++ ys)) ≡ ((r >>= λ n. loop step n xs) >>= λ a. loop step a ys)
after_step step (Ok n) xs ys rest = rest n
after_step step (Err f) xs ys rest = refl

after_list : {A S : Type 0} (step : S → A → Test S) (r : Test S) (xss : List (List A)) → ((n : S) → loop step n (flat_map (λ xs. xs) xss) ≡ loop (loop step) n xss) → (r >>= λ n. loop step n (flat_map (λ xs. xs) xss)) ≡ (r >>= λ n. loop (loop step) n xss)
after_list step (Ok n) xss rest = rest n
after_list step (Err f) xss rest = refl

pub loop_append : {A S : Type 0} (step : S → A → Test S) (acc : S) (xs ys : List A) → loop step acc (xs ++ ys) ≡ (loop step acc xs >>= λ a. loop step a ys)
loop_append step acc [] ys = refl
loop_append step acc (x ∷ xs) ys = after_step step (step acc x) xs ys (λ n. loop_append step n xs ys)

-- a loop over all elements of lists, list by list
pub loop_all_in : {A S : Type 0} (step : S → A → Test S) (acc : S) (xss : List (List A)) → loop step acc (flat_map (λ xs. xs) xss) ≡ loop (loop step) acc xss
loop_all_in step acc [] = refl
loop_all_in step acc (xs ∷ xss) = loop_append step acc xs (flat_map (λ ys. ys) xss) ∙ after_list step (loop step acc xs) xss (λ n. loop_all_in step n xss)
