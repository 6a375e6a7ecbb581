-- What is made of names, one after the other.
use Rattle.std.proofs.Common.{◌≡◌, ◌∙◌, ℕ, Bool, true, false, List, [], ◌∷◌, ◌++◌, map, Option, Some, None, Vec, sym, ap, subst, refl}
use Rattle.std.specs.Global.{Global}
use Rattle.std.proofs.lemmas.List.{map-append, append-nil}
use Rattle.mz_value.specs.Contents.{Content}
use Rattle.mz_arena.specs.declared.instance.ModelVar.{ModelVar as CodeVar}
use Rattle.mz_arena.specs.declared.instance.ParValue.{ParValue as CodePar}
use Rattle.mz_arena.specs.Instances.{ModelVar, ParValue, model_var, par_value}
use Rattle.mz_instance.specs.Instance.{AreModelVars}
use Rattle.mz_meaning.specs.Cells.{value_of}
use Rattle.mz_model_meaning.specs.Modeled.{cell_par, par_of, par_values}
use Rattle.mz_symbol.specs.Readings.{Reading}
use Rattle.mz_eval_cells.specs.declared.types.Known.{Known}
use Rattle.mz_eval_cells.specs.declared.types.Known.TheVariants as known
use Rattle.mz_eval_cells.specs.Views.{cell_of, seen}
use Rattle.mz_model_state.specs.Hands.{HeldName, NameKind, kind_domains, names_at, name_roots}
use Rattle.mz_model_state.specs.Variables.{is_var_kind, AreMadeOfNext, AreMadeOf}
use Rattle.mz_model_names.specs.declared.types.HeldName.{HeldName as CodeName}
use Rattle.mz_model_names.specs.declared.types.Kind.{Kind}
use Rattle.mz_model_names.specs.declared.types.Label.{Label}
use Rattle.mz_model_names.specs.Named.{name_kind, held_name}
use Rattle.mz_model_names.specs.declared.close.types.Taken.{Taken}
use Rattle.mz_model_names.specs.Closed.{AreTaken, AreTakenOf, IsNextTaken, IsVarFor, OneMoreTaken, AreTakenSoFar}

append_assoc : {A : Type 0} (xs ys zs : List A) → xs ++ ys ++ zs ≡ xs ++ (ys ++ zs)
append_assoc [] ys zs = refl
append_assoc (x ∷ xs) ys zs = ap (λ zs. x ∷ zs) (append_assoc xs ys zs)

-- ---- par names

abbrev par_if : ℕ → Option Content → List ParValue
par_if slot None = []
par_if slot (Some v) = record { slot = slot; value = v } ∷ []

par_by : (slot : ℕ) (k : Known) (r : Reading) → cell_par slot (seen r k) ≡ par_if slot (value_of (cell_of k))
par_by slot known.Undefined r = refl
par_by slot (known.One i) r = refl
par_by slot (known.Array ix xs) r = refl
par_by slot (known.Var x) r = refl
par_by slot (known.Row ix xs) r = refl
par_by slot (known.Unshaped d) r = refl

pub no_par : (slot : ℕ) (k : Known) (ps : List ParValue) → None ≡ value_of (cell_of k) → (r : Reading) → ps ≡ ps ++ cell_par slot (seen r k)
no_par slot k ps h r = sym (append-nil ps) ∙ ap (λ qs. ps ++ qs) (sym (par_by slot k r ∙ ap (par_if slot) (sym h)))

pub one_par : (slot : ℕ) (k : Known) (v : Content) (ps : List ParValue) → Some v ≡ value_of (cell_of k) → (r : Reading) → ps ++ record { slot = slot; value = v } ∷ [] ≡ ps ++ cell_par slot (seen r k)
one_par slot k v ps h r = ap (λ qs. ps ++ qs) (sym (par_by slot k r ∙ ap (par_if slot) (sym h)))

-- ---- one name more

made_next : (b : Bool) (k : NameKind) (P Q : List ModelVar → Type 0) (vs us : List ModelVar) → ((vs : List ModelVar) → P vs → Q (vs ++ us)) → AreMadeOfNext b k P vs → AreMadeOfNext b k Q (vs ++ us)
made_next false k P Q vs us f h = f vs h
made_next true k P Q [] us f h = absurd h
made_next true k P Q (v ∷ vs) us f h = (h.0, f vs h.1)

made_more : (ns : List HeldName) (n : HeldName) (vs us : List ModelVar) → AreMadeOf ns vs → AreMadeOf (n ∷ []) us → AreMadeOf (ns ++ n ∷ []) (vs ++ us)
made_more [] n [] us h o = o
made_more [] n (v ∷ vs) us h o = absurd h
made_more (x ∷ ns) n vs us h o = made_next (is_var_kind x.kind) x.kind (AreMadeOf ns) (AreMadeOf (ns ++ n ∷ [])) vs us (λ vs h. made_more ns n vs us h o) h

vars_more : (vs us : List ModelVar) → AreModelVars vs → AreModelVars us → AreModelVars (vs ++ us)
vars_more [] us h o = o
vars_more (v ∷ vs) us h o = (h.0, vars_more vs us h.1 o)

roots_more : (ns : List HeldName) (n : HeldName) → name_roots (ns ++ n ∷ []) ≡ name_roots ns ++ n.roots
roots_more [] n = append-nil n.roots
roots_more (x ∷ ns) n = ap (λ rs. x.roots ++ rs) (roots_more ns n) ∙ sym (append_assoc x.roots (name_roots ns) n.roots)

pars_more : (ns : List HeldName) (n : HeldName) (r : Reading) → par_values (names_at r (ns ++ n ∷ [])) ≡ par_values (names_at r ns) ++ par_of (kind_domains n.kind) n.slot (n.cell r)
pars_more [] n r = append-nil (par_of (kind_domains n.kind) n.slot (n.cell r))
pars_more (x ∷ ns) n r = ap (λ ps. par_of (kind_domains x.kind) x.slot (x.cell r) ++ ps) (pars_more ns n r) ∙ sym (append_assoc (par_of (kind_domains x.kind) x.slot (x.cell r)) (par_values (names_at r ns)) (par_of (kind_domains n.kind) n.slot (n.cell r)))

pub taken_more : (ns : List HeldName) (n : HeldName) (vs us : List ModelVar) (rs : List ℕ) (ps qs : List ParValue) → AreTaken ns vs rs ps → AreMadeOf (n ∷ []) us → AreModelVars us → ((r : Reading) → qs ≡ ps ++ par_of (kind_domains n.kind) n.slot (n.cell r)) → AreTaken (ns ++ n ∷ []) (vs ++ us) (rs ++ n.roots) qs
taken_more ns n vs us rs ps qs t made counted pars = record {
  made = made_more ns n vs us t.made made;
  counted = vars_more vs us t.counted counted;
  roots = ap (λ rs. rs ++ n.roots) t.roots ∙ sym (roots_more ns n);
  pars = λ r. pars_more ns n r ∙ ap (λ ps. ps ++ par_of (kind_domains n.kind) n.slot (n.cell r)) (t.pars r) ∙ sym (pars r);
}

-- ---- all names

pub none_taken : (all rest : List HeldName) (t : Taken) → rest ≡ all → AreTakenOf [] t → AreTakenSoFar all rest t
none_taken all rest t same h = record { first = []; whole = same; taken = h }

pub one_taken : (all rest more : List HeldName) (n : HeldName) (t u : Taken) → rest ≡ n ∷ more → AreTakenSoFar all rest t → OneMoreTaken n t u → AreTakenSoFar all more u
one_taken all rest more n t u same h o = record {
  first = h.first ++ n ∷ [];
  whole = append_assoc h.first (n ∷ []) more ∙ ap (λ xs. h.first ++ xs) (sym same) ∙ h.whole;
  taken = o.by h.first h.taken;
}

pub all_taken : (all rest : List HeldName) (t : Taken) → rest ≡ [] → AreTakenSoFar all rest t → AreTakenOf all t
all_taken all rest t none h = subst (λ ns. AreTakenOf ns t) (sym (append-nil h.first) ∙ ap (λ xs. h.first ++ xs) (sym none) ∙ h.whole) h.taken

-- ---- one name, by its kind

pub var_kind_taken : (l : Label) (k : Kind) (c : Known) (vs more : Vec CodeVar Global) (ps : Vec CodePar Global) (m : CodeVar) → is_var_kind (name_kind k) ≡ true → ((r : Reading) → par_of (kind_domains (name_kind k)) l.slot (seen r c) ≡ []) → IsVarFor (name_kind k) (model_var m) → more.items ≡ vs.items ++ m ∷ [] → IsNextTaken l k c vs ps (more, ps)
var_kind_taken l k c vs more ps m var none v e = record {
  own = model_var m ∷ [];
  vars = ap (map model_var) e ∙ map-append model_var vs.items (m ∷ []);
  made = λ n h. subst (λ (q : NameKind). AreMadeOfNext (is_var_kind q) q (AreMadeOf []) (model_var m ∷ [])) (sym h) (subst (λ (b : Bool). AreMadeOfNext b (name_kind k) (AreMadeOf []) (model_var m ∷ [])) (sym var) (v.made, tt));
  counted = (v.counted, tt);
  pars = λ r. sym (append-nil (map par_value ps.items)) ∙ ap (λ qs. map par_value ps.items ++ qs) (sym (none r));
}

pub name_taken : (h : CodeName) (t : Taken) (all : Vec ℕ Global) (p : Vec CodeVar Global × Vec CodePar Global) → all.items ≡ t.roots.items ++ h.roots.items → IsNextTaken h.label h.kind h.cell t.vars t.pars p → OneMoreTaken (held_name h) t (record { vars = p.0; roots = all; pars = p.1 })
name_taken h t all p e q = record {
  by = λ ns a.
      subst (λ (rs : List ℕ). AreTaken (ns ++ held_name h ∷ []) (map model_var p.0.items) rs (map par_value p.1.items)) (sym e)
      (subst (λ (vs : List ModelVar). AreTaken (ns ++ held_name h ∷ []) vs (t.roots.items ++ h.roots.items) (map par_value p.1.items)) (sym q.vars)
      (taken_more ns (held_name h) (map model_var t.vars.items) q.own t.roots.items (map par_value t.pars.items) (map par_value p.1.items) a (q.made (held_name h) refl) q.counted q.pars));
}
