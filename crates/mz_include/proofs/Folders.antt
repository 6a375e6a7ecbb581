-- The folder of a name, by its last `/`.
use Rattle.std.proofs.Common.{◌≡◌, ◌≢◌, ℕ, zero, suc, ◌<◌, List, [], ◌∷◌, length, take, get_or, true, false, refl, ap, arith, nat_eq}
use Rattle.std.specs.List.{list_any}
use Rattle.std.proofs.lemmas.List.Folds.{list_any_at}
use Rattle.std.proofs.lemmas.Bool.Decides.{nat_tests}
use Rattle.mz_include.specs.Joining.{slash, folder}

-- no byte is a `/`
abbrev NoSlash : List ℕ → Type 0
NoSlash bs = (i : ℕ) → i < length bs → get_or bs i 0 ≢ slash

not_slash : (b : ℕ) → b ≢ slash → nat_eq slash b ≡ false
not_slash b other = grind (arith, nat_tests)

none_passes : (bs : List ℕ) → NoSlash bs → list_any (nat_eq slash) bs ≡ false
none_passes [] none = refl
none_passes (b ∷ bs) none = rw (not_slash b (none 0 (omega arith)), none_passes bs (λ i h. none (suc i) (omega arith))) refl

pub no_folder : (bs : List ℕ) → NoSlash bs → [] ≡ folder bs
unfolding folder
no_folder [] none = refl
no_folder (b ∷ bs) none = rw (none_passes (b ∷ bs) none) refl

is_slash : (b : ℕ) → b ≡ slash → nat_eq slash b ≡ true
is_slash b same = rw same refl

-- the bytes up to and with the last `/`
pub folder_at : (bs : List ℕ) (k : ℕ) → k < length bs → get_or bs k 0 ≡ slash → ((i : ℕ) → k < i → i < length bs → get_or bs i 0 ≢ slash) → take (suc k) bs ≡ folder bs
unfolding folder
folder_at [] k below at last = absurd (omega arith)
folder_at (b ∷ bs) zero below at last =
    rw (list_any_at (nat_eq slash) (b ∷ bs) 0 0 (omega arith) (is_slash b at)) (ap (λ f. b ∷ f) (no_folder bs (λ i h. last (suc i) (omega arith) (omega arith))))
folder_at (b ∷ bs) (suc k) below at last =
    rw (list_any_at (nat_eq slash) (b ∷ bs) (suc k) 0 below (is_slash _ at)) (ap (λ f. b ∷ f) (folder_at bs k (omega arith) at (λ i h g. last (suc i) (omega arith) (omega arith))))
