-- Symbols that stand for others.
use Rattle.std.specs.Prelude.{◌≡◌, ◌*◌, ℕ, List, [], ◌∷◌}
use Rattle.mz_arena.specs.Values.{Term}
use Rattle.mz_symbol.specs.declared.types.Symbol.{Symbol}
use Rattle.mz_symbol.specs.Symbols.{IsItem, symbol_value}
use Rattle.mz_symbol.specs.Runs.{Run}
use Rattle.mz_symbol.specs.Readings.{Reading, state_of}

-- a symbol with the value of another, wherever the nodes of that one have values
pub record StandsFor (t : ℕ → Term) (p x : Symbol) : Type 0 where
  pub value : IsItem t p → symbol_value t x ≡ symbol_value t p
  pub item : IsItem t p → IsItem t x

-- element by element
abbrev pub StandFor : (ℕ → Term) → List Symbol → List Symbol → Type 0
StandFor t [] [] = Unit {0}
StandFor t (p ∷ ps) (x ∷ xs) = StandsFor t p x × StandFor t ps xs
StandFor t ps xs = ⊥

-- symbols for others that were made, and nothing else
pub record ReplacesAll (r : Reading) (old new : Run) (ps xs : List Symbol) : Type 0 where
  pub same : state_of r old ≡ state_of r new
  pub are : StandFor r.term ps xs
