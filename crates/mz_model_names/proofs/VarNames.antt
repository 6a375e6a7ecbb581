-- A variable, with its places, its cell and its roots.
use Rattle.std.proofs.Common.{◌≡◌, ◌∙◌, ℕ, ◌*◌, List, [], ◌∷◌, map, Option, refl, sym, ap, subst}
use Rattle.mz_value.specs.Ranges.{Range}
use Rattle.mz_meaning.specs.Domains.{Domain, Scalar, Places}
use Rattle.mz_model_meaning.specs.Decoded.{AreShaped}
use Rattle.mz_symbol.specs.declared.types.Free.{Free}
use Rattle.mz_symbol.specs.Symbols.{domain_of}
use Rattle.mz_symbol.specs.Runs.{Run}
use Rattle.mz_symbol.specs.Makes.{GoesOn, GoesOnBy}
use Rattle.mz_eval_cells.specs.declared.types.Known.{Known}
use Rattle.mz_eval_cells.specs.Views.{seen}
use Rattle.mz_model_state.specs.Hands as hands
use Rattle.mz_model_state.specs.Hands.{NameKind, OnePlace, ManyPlaces}
use Rattle.mz_model_state.specs.Loops.{ReadBack}
use Rattle.mz_model_state.specs.Variables.{IsPlaceCell, IsArrayCell}
use Rattle.mz_model_roots.specs.Placed.{place_over, ArePlaces, MakesPlaces, Keeps, ArePlacesOver}
use Rattle.mz_model_names.specs.declared.types.Label.{Label}
use Rattle.mz_model_names.specs.Named.{view_if, AreRootsIf, Stands, IsVarOver}

-- a name of this kind, with this cell, value and roots
abbrev pub var_name : Label → NameKind → Known → Option Known → List ℕ → hands.HeldName
var_name l c k v ids = record { slot = l.slot; kind = c; cell = λ r. seen r k; value = view_if v; roots = ids }

first_of : (d e : Domain) → d ∷ [] ≡ e ∷ [] → d ≡ e
first_of d e h = cc

-- the cell of a variable stays what it is as the run goes on
place_later : (s t : Run) (k : Known) (f : Free) → ReadBack s t → IsPlaceCell s (λ r. seen r k) f → IsPlaceCell t (λ r. seen r k) f
place_later s t k f back is = λ r reads some. is r (back r reads) some

pub one_var : (old mid held new : Run) (number : ℕ) (l : Label) (u : List Range) (f : Free) (k : Known) (v : Option Known) (ids : List ℕ) → MakesPlaces 8 old mid → ArePlaces mid number (place_over l.base l.opt u ∷ []) (f ∷ []) → GoesOn mid held → Keeps mid held → IsPlaceCell held (λ r. seen r k) f → Stands held new → AreRootsIf new (OnePlace f) (view_if v) ids → IsVarOver (Scalar (place_over l.base l.opt u)) v old new (var_name l (OnePlace f) k v ids)
one_var old mid held new number l u f k v ids makes places goes keeps cell stands roots = record {
  domains = ap Scalar (first_of (domain_of f) (place_over l.base l.opt u) places.domains);
  var = refl;
  value = refl;
  shaped = subst AreShaped (sym places.domains) places.shaped;
  made = record {
    back = λ r h. makes.goes.back r (goes.back r (stands.back r h));
    same = λ r h. makes.same r ∙ keeps.same r (stands.back r h) ∙ stands.same r h;
    cell = place_later held new k f stands.back cell;
  };
  rooted = λ ns. roots.by ns (var_name l (OnePlace f) k v ids) refl refl refl;
}

-- the cell of an array stays what it is as the run goes on
cell_later : (s t : Run) (k : Known) (ix : List Range) (fs : List Free) → ReadBack s t → IsArrayCell s (λ r. seen r k) ix fs → IsArrayCell t (λ r. seen r k) ix fs
cell_later s t k ix fs back is = record { line = is.line; places = record { value = λ r h. is.places.value r (back r h) }; cell = is.cell }

pub many_var : (n : ℕ) (old mid new : Run) (l : Label) (ix jx : List Range) (us : List (List Range)) (fs : List Free) (k : Known) (v : Option Known) (ids : List ℕ) → jx ≡ ix → GoesOnBy n old mid → Keeps old mid → ArePlacesOver l.base l.opt us fs → IsArrayCell mid (λ r. seen r k) jx fs → Stands mid new → AreRootsIf new (ManyPlaces ix fs) (view_if v) ids → IsVarOver (Places ix (map (place_over l.base l.opt) us)) v old new (var_name l (ManyPlaces ix fs) k v ids)
many_var n old mid new l ix jx us fs k v ids same goes keeps places cell stands roots = record {
  domains = ap (Places ix) places.domains;
  var = refl;
  value = refl;
  shaped = places.shaped;
  made = record {
    back = λ r h. goes.back r (stands.back r h);
    same = λ r h. keeps.same r (stands.back r h) ∙ stands.same r h;
    cell = cell_later mid new k ix fs stands.back (subst (λ ix. IsArrayCell mid (λ r. seen r k) ix fs) same cell);
  };
  rooted = λ ns. roots.by ns (var_name l (ManyPlaces ix fs) k v ids) refl refl refl;
}
