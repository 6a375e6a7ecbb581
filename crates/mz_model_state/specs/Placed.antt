-- THE PARTS OF NAMES HAVE THEIR NODES, as a test of them tells.
use Rattle.std.specs.Prelude.{◌≡◌, ◌+◌, ℕ, List, [], ◌∷◌, ◌++◌, false, length, map}
use Rattle.mz_instance.specs.Parts.{AreNodes}
use Rattle.mz_symbol.specs.declared.types.Free.{Free}
use Rattle.mz_symbol.specs.Choices.{all_parts}
use Rattle.mz_symbol.specs.Symbols.{domain_of, free_ids}
use Rattle.mz_symbol.specs.Runs.{Run}
use Rattle.mz_model_state.specs.Hands.{HeldName, kind_places, AreVars}
use Rattle.mz_model_state.specs.Variables.{part_count}

-- the parts of these places have the nodes with the numbers from k on, and n is the next number
pub record ArePlaced (s : Run) (k : ℕ) (fs : List Free) (n : ℕ) : Type 0 where
  pub nodes : AreNodes s.arena false k (free_ids fs) (all_parts (map domain_of fs))
  pub number : n ≡ k + length (free_ids fs)

-- with a name of these places the parts of the names have their nodes, where those of the names before have
abbrev pub PlacedIsNext : Type 0
PlacedIsNext = (s : Run) (ns : List HeldName) (n : HeldName) (next : ℕ) → AreVars s ns → ArePlaced s (part_count ns) (kind_places n.kind) next → AreVars s (ns ++ n ∷ [])

abbrev pub PlacedCounts : Type 0
PlacedCounts = (s : Run) (ns : List HeldName) (n : HeldName) (next : ℕ) → ArePlaced s (part_count ns) (kind_places n.kind) next → next ≡ part_count (ns ++ n ∷ [])
