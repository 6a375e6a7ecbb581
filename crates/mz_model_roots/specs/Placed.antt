-- THE PLACES OF ONE MORE NAME, whose parts are the next variables of a run.
use Rattle.std.specs.Prelude.{◌≡◌, ℕ, List, [], ◌∷◌, ◌++◌, Bool, false, map}
use Rattle.mz_value.specs.Ranges.{Range}
use Rattle.mz_core.specs.declared.types.Base.{Base}
use Rattle.mz_arena.specs.Arenas.{Grew}
use Rattle.mz_meaning.specs.Domains.{Domain}
use Rattle.mz_instance.specs.Parts.{AreNodes}
use Rattle.mz_model_meaning.specs.Decoded.{AreShaped}
use Rattle.mz_symbol.specs.declared.types.Free.{Free}
use Rattle.mz_symbol.specs.Choices.{all_parts}
use Rattle.mz_symbol.specs.Symbols.{domain_of, free_ids}
use Rattle.mz_symbol.specs.Runs.{Run}
use Rattle.mz_symbol.specs.Readings.{Reading, Reads, state_of}
use Rattle.mz_symbol.specs.Makes.{GoesOnBy}
use Rattle.mz_model_state.specs.Hands.{NameKind, HeldName, AreVars}
use Rattle.mz_model_state.specs.Variables.{part_count}

abbrev pub place_over : Base → Bool → List Range → Domain
place_over b o u = record { base = b; opt = o; set = u }

-- their parts have the next nodes, where the first part has the number k
abbrev pub HaveNodes : Run → ℕ → List Free → Type 0
HaveNodes s k fs = AreNodes s.arena false k (free_ids fs) (all_parts (map domain_of fs))

-- PLACES of these domains, whose parts are the variables with the numbers from k on
pub record ArePlaces (s : Run) (k : ℕ) (ds : List Domain) (fs : List Free) : Type 0 where
  pub domains : map domain_of fs ≡ ds
  pub shaped : AreShaped ds
  pub nodes : HaveNodes s k fs

-- A NAME OF THIS KIND IS THE NEXT, where the names before it have k parts: with it, each part of the names has its node
pub record AddsName (old new : Run) (k : ℕ) (kind : NameKind) : Type 0 where
  pub vars : (ns : List HeldName) (n : HeldName) → n.kind ≡ kind → part_count ns ≡ k → AreVars old ns → AreVars new (ns ++ n ∷ [])

-- what is made costs up to n and changes no state, and the nodes of earlier names stay
pub record MakesPlaces (n : ℕ) (old new : Run) : Type 0 where
  pub goes : GoesOnBy n old new
  pub same : (r : Reading) → state_of r old ≡ state_of r new
  pub grew : Grew old.arena new.arena

-- ---- an array of variables

-- what is made costs no work and takes no choice
pub record Keeps (old new : Run) : Type 0 where
  pub same : (r : Reading) → Reads r new → state_of r old ≡ state_of r new

-- the places of an array over these sets
pub record ArePlacesOver (b : Base) (o : Bool) (us : List (List Range)) (fs : List Free) : Type 0 where
  pub domains : map domain_of fs ≡ map (place_over b o) us
  pub shaped : AreShaped (map domain_of fs)
