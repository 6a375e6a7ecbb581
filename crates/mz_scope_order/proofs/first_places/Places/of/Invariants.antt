use Rattle.std.proofs.Common.{◌≡◌, ℕ, drop}
use Rattle.mz_scope_order.specs.StepsTables.{place_found, place_from, or_next}
use Rattle.mz_scope_order.proofs.first_places.Places.of.Given as goal

abbrev pub invariant-loop-k : goal.invariant-loop-k
invariant-loop-k l = (n : ℕ) → or_next (place_found l.places n) (place_from l.k n (drop l.k l.names)) ≡ place_from 0 n l.names
