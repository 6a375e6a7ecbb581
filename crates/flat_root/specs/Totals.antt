-- What must be true for roots: total terms.
use Rattle.std.specs.Prelude.{◌≡◌, ℕ, ◌<◌, List, [], ◌∷◌, ◌++◌, length}
use Rattle.std.specs.List.{AllByRecursion}
use Rattle.mz_arena.specs.Entries.{Entry}
use Rattle.mz_arena.specs.Values as terms
use Rattle.mz_arena.specs.InBounds.{AreInDomains}
use Rattle.mz_partial.specs.Totals.{IsTotal}
use Rattle.flat_reif.specs.States.{State, Always}
use Rattle.flat_reif.specs.Roots.{IsTruthNode}
use Rattle.flat_root.specs.Keeps.{Keeps, IsReadyState, AllTrue}

-- a Boolean node
pub record IsRoot (es : List Entry) (id : ℕ) : Type 0 where
  pub place : id < length es
  pub truth : IsTruthNode es id

abbrev pub AreRoots : List Entry → List ℕ → Type 0
AreRoots es ids = AllByRecursion (IsRoot es) ids

-- a Boolean node that always has a value
pub record IsRootPart (es : List Entry) (id : ℕ) : Type 0 where
  pub root : IsRoot es id
  pub total : IsTotal es id

abbrev pub AreRootParts : List Entry → List ℕ → Type 0
AreRootParts es ids = AllByRecursion (IsRootPart es) ids

-- the parts are true exactly where the roots are
pub record Totals (old new : State) (roots parts : List ℕ) : Type 0 where
  pub keeps : Keeps old new Always
  pub ready : IsReadyState new
  pub each : AreRootParts new.es parts
  pub to : (v : terms.Values) → AreInDomains new.es v → AllTrue old.es roots v → AllTrue new.es parts v
  pub from : (v : terms.Values) → AreInDomains new.es v → AllTrue new.es parts v → AllTrue old.es roots v

-- where one root more has a value, and its total term
pub record AddsTotal (old new : State) (id : ℕ) (defined defined_new terms terms_new : List ℕ) : Type 0 where
  pub has : ℕ
  pub term : ℕ
  pub defined_is : defined_new ≡ defined ++ has ∷ []
  pub terms_are : terms_new ≡ terms ++ term ∷ []
  pub totals : Totals old new (id ∷ []) (has ∷ term ∷ [])
