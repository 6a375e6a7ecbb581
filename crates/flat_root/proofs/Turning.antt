-- Ids that are met in a turn.
use Rattle.std.proofs.Common.{◌≡◌, ℕ, ◌+◌, ◌<◌, ◌≤◌, nat_eq, Bool, true, false, ◌||◌, List, [], refl, ap, ◌∙◌, arith}
use Rattle.std.proofs.lemmas.Bool.Decides.{nat_tests}
use Rattle.flat_root.specs.Parts.{HasOneMore}
use Rattle.flat_root.specs.Turns.{AreBefore, AreUpTo, IsMet, met_in, turn_of}

same_id : (k i : ℕ) → nat_eq k i ≡ true → k ≡ i
same_id k i h = grind (arith, nat_tests)

own_turn : (n : ℕ) → nat_eq n n ≡ true
own_turn n = grind (arith, nat_tests)

another : (a b : ℕ) → a < b → nat_eq a b ≡ false
another a b l = grind (arith, nat_tests)

pub met_more : (old new : List ℕ) (id turn : ℕ) → IsMet old new id turn → HasOneMore (met_in turn old) (met_in turn new) id
met_more old new id turn m k = by (nat_eq k id) refl
  where
    by : (b : Bool) → nat_eq k id ≡ b → met_in turn new k ≡ (b || met_in turn old k)
    by true h = ap (met_in turn new) (same_id k id h) ∙ ap (λ n. nat_eq n turn) m.here ∙ own_turn turn
    by false h = ap (λ n. nat_eq n turn) (m.others k h)

pub met_up_to : (old new : List ℕ) (id turn : ℕ) → IsMet old new id turn → AreUpTo old turn → AreUpTo new turn
met_up_to old new id turn m u k = by (nat_eq k id) refl
  where
    by : (b : Bool) → nat_eq k id ≡ b → turn_of new k ≤ turn
    by true h = let e : turn_of new k ≡ turn = ap (turn_of new) (same_id k id h) ∙ m.here in omega (arith, e)
    by false h = let e : turn_of new k ≡ turn_of old k = m.others k h in let l = u k in omega (arith, e, l)

pub none_met : (marks : List ℕ) (turn : ℕ) → AreBefore marks turn → (k : ℕ) → met_in turn marks k ≡ false
none_met marks turn b k = another (turn_of marks k) turn (b k)

pub before_next : (marks : List ℕ) (turn next : ℕ) → AreUpTo marks turn → next ≡ turn + 1 → AreBefore marks next
before_next marks turn next u e k = let l = u k in omega (arith, l, e)

pub up_to_before : (marks : List ℕ) (turn : ℕ) → AreBefore marks turn → AreUpTo marks turn
up_to_before marks turn b k = let l = b k in omega (arith, l)

pub nothing_met : (marks : List ℕ) → marks ≡ [] → AreUpTo marks 0
nothing_met marks e k = let n : turn_of marks k ≡ 0 = ap (λ ms. turn_of ms k) e in omega (arith, n)
