-- What a test's answer shows.
use Rattle.std.proofs.Common.{◌≡◌, Bool, true, false, refl}
use Rattle.std.proofs.lemmas.Bool.{false≢true}

pub says_true : {P : Type 0} → P → (true ≡ true → P) × (P → true ≡ true)
says_true p = (λ _. p, λ _. refl)

pub says_false : {P : Type 0} → (P → ⊥) → (false ≡ true → P) × (P → false ≡ true)
says_false n = (λ e. absurd (false≢true e), λ p. absurd (n p))

pub denied : {P : Type 0} (b : Bool) → (P → b ≡ true) → b ≡ false → P → ⊥
denied b from e p = cc (from p)
