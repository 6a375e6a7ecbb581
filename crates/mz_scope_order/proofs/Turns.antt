-- The order of turns is the same for two relations that say the same.
use Rattle.std.proofs.Common.{ℕ, ◌<◌, List, [], ◌∷◌, ◌++◌}
use Rattle.mz_graph.specs.Order.{IsReady, Continues, over, turn}

abbrev Within : (ℕ → ℕ → Type 0) → (ℕ → ℕ → Type 0) → ℕ → Type 0
Within R S count = (x y : ℕ) → x < count → R x y → S x y

ready_as : {R S : ℕ → ℕ → Type 0} {count : ℕ} {done : List ℕ} {x : ℕ} → Within S R count → IsReady R count done x → IsReady S count done x
ready_as {x = x} back r = record {
  counted = r.counted;
  remains = r.remains;
  served = λ y s. r.served y (back x y r.counted s);
}

pub same_turns : {R S : ℕ → ℕ → Type 0} {count : ℕ} (done rest : List ℕ) → Within R S count → Within S R count → Continues R count done rest → Continues S count done rest
same_turns done [] to back (over none) = over (λ x r. none x (ready_as to r))
same_turns done (x ∷ rest) to back (turn next more) =
    turn (record { ready = ready_as back next.ready; least = λ y l r. next.least y l (ready_as to r) })
    (same_turns (done ++ x ∷ []) rest to back more)
