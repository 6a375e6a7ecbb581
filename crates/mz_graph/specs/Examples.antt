-- Worked examples: small graphs, their orders and their components.
use Rattle.std.proofs.Common.{◌≡◌, ℕ, [], ◌∷◌, refl, inl, zero, suc, arith}
use Rattle.mz_graph.specs.Graph.{Graph, heads, Edge, Path, arrived, onward, number_of}
use Rattle.mz_graph.specs.Order.{IsReady, over, IsOrder}

-- 0 needs 1, and 1 needs 2
abbrev pub chain : Graph
chain = (1 ∷ []) ∷ (2 ∷ []) ∷ [] ∷ []

-- 0 and 1 need each other
abbrev pub ring : Graph
ring = (1 ∷ []) ∷ (0 ∷ []) ∷ []

-- 0 is read by 1 and 2, and 2 needs 1
abbrev pub shared : Graph
shared = [] ∷ (0 ∷ []) ∷ (1 ∷ 0 ∷ []) ∷ []

pub heads_in_chain : heads chain 1 ≡ 2 ∷ []
heads_in_chain = refl

pub heads_past_the_last : heads chain 3 ≡ []
heads_past_the_last = refl

pub heads_in_shared : heads shared 2 ≡ 1 ∷ 0 ∷ []
heads_in_shared = refl

pub edge_of_a_ring : Edge ring 1 0
edge_of_a_ring = record { listed = inl refl }

pub round_a_ring : Path ring 0 0
round_a_ring = onward {y = 1} (record { listed = inl refl }) (onward (record { listed = inl refl }) arrived)

pub numbers_of_a_ring : number_of (0 ∷ 0 ∷ []) 0 ≡ number_of (0 ∷ 0 ∷ []) 1
numbers_of_a_ring = refl

-- in a ring none has its turn
pub no_turn_in_a_ring : IsOrder (Edge ring) 2 []
no_turn_in_a_ring = over stuck
  where
    stuck : (x : ℕ) → IsReady (Edge ring) 2 [] x → ⊥
    stuck zero r = r.served 1 (record { listed = inl refl })
    stuck (suc zero) r = r.served 0 (record { listed = inl refl })
    stuck (suc (suc x)) r = let h = r.counted in absurd (omega arith)
