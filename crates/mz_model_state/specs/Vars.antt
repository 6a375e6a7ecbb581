-- THE VARIABLES OF AN INSTANCE, made of the places of names.
use Rattle.std.specs.Prelude.{◌≡◌, ℕ, List, [], ◌∷◌, Bool, map, Option, Some, None}
use Rattle.mz_value.specs.Ranges.{Range}
use Rattle.mz_core.specs.declared.types.Base.{Base}
use Rattle.mz_arena.specs.Instances.{ModelVar}
use Rattle.mz_meaning.specs.Domains.{Domain}
use Rattle.mz_instance.specs.Parts.{base_of}
use Rattle.mz_symbol.specs.declared.types.Free.{Free}
use Rattle.mz_symbol.specs.Symbols.{domain_of}
use Rattle.mz_model_state.specs.Hands.{OnePlace, ManyPlaces}
use Rattle.mz_model_state.specs.Variables.{place_cell, IsMadeOf}

-- a variable of this name and base, with these places
pub record IsVarOver (text : ℕ) (b : Base) (o : Bool) (ix : Option (List Range)) (fs : List Free) (m : ModelVar) : Type 0 where
  pub name : m.name ≡ text
  pub base : base_of m.base ≡ b
  pub opt : m.opt ≡ o
  pub index : m.index ≡ ix
  pub cells : m.cells ≡ map place_cell fs

-- domains of this base, options or not
abbrev pub AreOver : Base → Bool → List Domain → Type 0
AreOver b o [] = Unit {0}
AreOver b o (d ∷ ds) = ((d.base ≡ b) × (d.opt ≡ o)) × AreOver b o ds

-- over one place it is made of that of a single variable, and over others of an array's, where the places have domains of the base
abbrev pub VarsMade : Type 0
VarsMade = (name : ℕ) (b : Base) (o : Bool) (f : Free) (m : ModelVar) → AreOver b o (map domain_of (f ∷ [])) → IsVarOver name b o None (f ∷ []) m → IsMadeOf (OnePlace f) m

abbrev pub ArraysMade : Type 0
ArraysMade = (name : ℕ) (b : Base) (o : Bool) (ix : List Range) (fs : List Free) (m : ModelVar) → AreOver b o (map domain_of fs) → IsVarOver name b o (Some ix) fs m → IsMadeOf (ManyPlaces ix fs) m
