-- What a variable over places is made of.
use Rattle.std.proofs.Common.{◌≡◌, ◌∙◌, ℕ, Bool, List, [], ◌∷◌, map, Option, Some, None, sym}
use Rattle.mz_value.specs.Ranges.{Range}
use Rattle.mz_core.specs.declared.types.Base.{Base}
use Rattle.mz_arena.specs.Instances.{ModelVar}
use Rattle.mz_instance.specs.Parts.{base_of}
use Rattle.mz_symbol.specs.declared.types.Free.{Free}
use Rattle.mz_symbol.specs.Symbols.{domain_of}
use Rattle.mz_model_state.specs.Hands.{OnePlace, ManyPlaces}
use Rattle.mz_model_state.specs.Variables.{ArePlacesOf, IsMadeOf}
use Rattle.mz_model_state.specs.Vars.{IsVarOver, AreOver}

places_of : (b : Base) (o : Bool) (m : ModelVar) (fs : List Free) → base_of m.base ≡ b → m.opt ≡ o → AreOver b o (map domain_of fs) → ArePlacesOf m fs
places_of b o m [] base opt over = tt
places_of b o m (f ∷ fs) base opt over = ((over.0.0 ∙ sym base, over.0.1 ∙ sym opt), places_of b o m fs base opt over.1)

pub var_made : (name : ℕ) (b : Base) (o : Bool) (f : Free) (m : ModelVar) → AreOver b o (map domain_of (f ∷ [])) → IsVarOver name b o None (f ∷ []) m → IsMadeOf (OnePlace f) m
var_made name b o f m over is = record { index = is.index; cells = is.cells; places = places_of b o m (f ∷ []) is.base is.opt over }

pub array_made : (name : ℕ) (b : Base) (o : Bool) (ix : List Range) (fs : List Free) (m : ModelVar) → AreOver b o (map domain_of fs) → IsVarOver name b o (Some ix) fs m → IsMadeOf (ManyPlaces ix fs) m
array_made name b o ix fs m over is = record { index = is.index; cells = is.cells; places = places_of b o m fs is.base is.opt over }
