-- The name of a form is the next one.
use Rattle.std.proofs.Common.{◌≡◌, ◌∙◌, ℕ, Bool, true, false, List, [], ◌∷◌, ◌++◌, map, Option, Some, None, refl, sym, ap, subst, inl}
use Rattle.mz_value.specs.Ranges.{Range}
use Rattle.mz_core.specs.Types.{PlainType}
use Rattle.mz_core.specs.Program.{PlainProgram}
use Rattle.mz_core.specs.Tree.{Decl}
use Rattle.mz_meaning.specs.Cells.{Cell}
use Rattle.mz_meaning.specs.Domains.{Domains, Scalar, Places, domain_over}
use Rattle.mz_meaning.specs.Runs.{Out}
use Rattle.mz_meaning.specs.Walk.{Limits}
use Rattle.mz_symbol.specs.Runs.{Run}
use Rattle.mz_symbol.specs.Readings.{Reading, Reads, state_of}
use Rattle.mz_eval_cells.specs.declared.types.Known.{Known}
use Rattle.mz_eval_cells.specs.Views.{seen}
use Rattle.mz_model_state.specs.Hands as hands
use Rattle.mz_model_state.specs.Hands.{kind_domains, cell_at}
use Rattle.mz_model_state.specs.Loops.{IsNextName}
use Rattle.mz_model_state.specs.Roots.{NoRoots}
use Rattle.mz_model_state.specs.Forms.{NameForm, VarForm}
use Rattle.mz_model_state.specs.Names.{HasForm, par_held, var_form, ParIsNext, VarIsNext}
use Rattle.mz_model_names.specs.declared.forms.Form.{Form}
use Rattle.mz_model_names.specs.declared.forms.Form.TheVariants as form
use Rattle.mz_model_names.specs.Formed.{cell_if, form_seen}
use Rattle.mz_model_roots.specs.Placed.{place_over}
use Rattle.mz_model_names.specs.declared.types.Label.{Label}
use Rattle.mz_model_names.specs.Named.{IsLabelOf, view_if, IsVarOver, IsNameOver}

par_made : ParIsNext → NoRoots → (t : PlainType) (k : ℕ) (c : Known) (s : Run) → t.var ≡ false → IsNameOver t (form.Par c) s s (par_held k (λ r. seen r c))
par_made par none t k c s is = record {
  var = sym is;
  shaped = tt;
  rooted = λ ns. none s (ns ++ par_held k (λ r. seen r c) ∷ []) (par_held k (λ r. seen r c)) refl (inl refl);
  next = λ l p old ns d h e. subst (λ k. IsNextName l p old s ns d (par_held k (λ r. seen r c))) (sym e) (par l p old s ns d (λ r. seen r c) h);
}

pub par_over : ParIsNext → NoRoots → (t : PlainType) (k : ℕ) (c : Known) (s : Run) (n : hands.HeldName) → t.var ≡ false → n ≡ par_held k (λ r. seen r c) → IsNameOver t (form.Par c) s s n
par_over par none t k c s n is same = subst (IsNameOver t (form.Par c) s s) (sym same) (par_made par none t k c s is)

same_value : (r : Reading) (v : Option Known) → cell_if r v ≡ cell_at r (view_if v)
same_value r None = refl
same_value r (Some k) = refl

-- a name with the domains and the value of a form
var_over : VarIsNext → (t : PlainType) (f : Form) (v : Option Known) (ds : Domains) (old new : Run) (n : hands.HeldName) → t.var ≡ true → ((r : Reading) → form_seen t r f ≡ VarForm ds (cell_if r v)) → IsVarOver ds v old new n → IsNameOver t f old new n
var_over var t f v ds old new n is sees made = record {
  var = made.var ∙ sym is;
  shaped = made.shaped;
  rooted = made.rooted;
  next = λ l p before ns d h e.
      let same : (r : Reading) → form_seen t r f ≡ var_form n r = λ r.
      sees r
      ∙ ap (λ ds. VarForm ds (cell_if r v)) (sym made.domains)
      ∙ ap (VarForm (kind_domains n.kind)) (same_value r v)
      ∙ ap (λ w. VarForm (kind_domains n.kind) (cell_at r w)) (sym made.value) in
      var l p before old new ns d n (record { back = h.back; means = λ r reads. h.means r reads ∙ ap (λ x. Out x (state_of r old)) (same r) }) e made.made;
}

pub one_over : VarIsNext → (t : PlainType) (k m : ℕ) (l : Label) (u : List Range) (v : Option Known) (old new : Run) (n : hands.HeldName) → t.var ≡ true → IsLabelOf k m t l → IsVarOver (Scalar (place_over l.base l.opt u)) v old new n → IsNameOver t (form.One u v) old new n
one_over var t k m l u v old new n is label made = var_over var t (form.One u v) v (Scalar (place_over l.base l.opt u)) old new n is (λ r. ap (λ b. VarForm (Scalar (place_over b t.opt u)) (cell_if r v)) (sym label.base) ∙ ap (λ o. VarForm (Scalar (place_over l.base o u)) (cell_if r v)) (sym label.opt)) made

pub many_over : VarIsNext → (t : PlainType) (k m : ℕ) (l : Label) (f : Form) (ix : List Range) (us : List (List Range)) (v : Option Known) (old new : Run) (n : hands.HeldName) → t.var ≡ true → IsLabelOf k m t l → ((r : Reading) → form_seen t r f ≡ VarForm (Places ix (map (domain_over t) us)) (cell_if r v)) → IsVarOver (Places ix (map (place_over l.base l.opt) us)) v old new n → IsNameOver t f old new n
many_over var t k m l f ix us v old new n is label sees made = var_over var t f v (Places ix (map (place_over l.base l.opt) us)) old new n is (λ r. sees r ∙ ap (λ b. VarForm (Places ix (map (place_over b t.opt) us)) (cell_if r v)) (sym label.base) ∙ ap (λ o. VarForm (Places ix (map (place_over l.base o) us)) (cell_if r v)) (sym label.opt)) made
