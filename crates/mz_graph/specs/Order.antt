-- Turns of the numbers below a count: again and again the least one whose needs all had their turn.
use Rattle.std.specs.Prelude.{ℕ, ◌<◌, List, [], ◌∷◌, ◌++◌}
use Rattle.mz_graph.specs.Graph.{IsIn}

-- had no turn yet, and all that it needs had one
pub record IsReady (Needs : ℕ → ℕ → Type 0) (count : ℕ) (done : List ℕ) (x : ℕ) : Type 0 where
  pub counted : x < count
  pub remains : IsIn x done → ⊥
  pub served : (y : ℕ) → Needs x y → IsIn y done

-- the least that is ready
pub record IsNext (Needs : ℕ → ℕ → Type 0) (count : ℕ) (done : List ℕ) (x : ℕ) : Type 0 where
  pub ready : IsReady Needs count done x
  pub least : (y : ℕ) → y < x → IsReady Needs count done y → ⊥

-- what comes after these: each time the next one, until none is ready
pub data Continues (Needs : ℕ → ℕ → Type 0) (count : ℕ) : List ℕ → List ℕ → Type 0 where
  over : {done : List ℕ} → ((x : ℕ) → IsReady Needs count done x → ⊥) → Continues Needs count done []
  turn : {done : List ℕ} {x : ℕ} {rest : List ℕ} → IsNext Needs count done x → Continues Needs count (done ++ x ∷ []) rest → Continues Needs count done (x ∷ rest)

abbrev pub IsOrder : (ℕ → ℕ → Type 0) → ℕ → List ℕ → Type 0
IsOrder Needs count order = Continues Needs count [] order

-- all had their turn
abbrev pub IsComplete : ℕ → List ℕ → Type 0
IsComplete count order = (x : ℕ) → x < count → IsIn x order

-- the least that never has its turn
pub record IsFirstLeft (count : ℕ) (order : List ℕ) (x : ℕ) : Type 0 where
  pub counted : x < count
  pub remains : IsIn x order → ⊥
  pub first : (y : ℕ) → y < x → IsIn y order
