-- The names of declarations, one after the other.
use Rattle.std.proofs.Common.{◌≡◌, ◌∙◌, ℕ, zero, suc, ◌+◌, ◌<◌, true, false, List, [], ◌∷◌, ◌++◌, length, map, drop, Some, None, slice_get, get_or, append_assoc, refl, sym, ap, subst, arith}
use Rattle.std.proofs.lemmas.List.{append-nil, drop_more}
use Rattle.mz_core.specs.Tree.{Decl}
use Rattle.mz_core.specs.TreeViews.{decl}
use Rattle.mz_core.specs.declared.tree.CoreDecl.{CoreDecl}
use Rattle.mz_arena.specs.Instances.{ParValue, par_value}
use Rattle.mz_arena.specs.declared.instance.ParValue.{ParValue as CodePar}
use Rattle.mz_value.specs.Contents.{Content, content}
use Rattle.mz_meaning.specs.Cells.{Cell, Par}
use Rattle.mz_meaning.specs.Walk.{ordered, with_decl}
use Rattle.mz_print.specs.Output.{OutputName}
use Rattle.mz_print.specs.declared.names.TopName.{TopName}
use Rattle.mz_print.specs.Names.{top_name, top_names}
use Rattle.mz_print_model.specs.Names.{variable, par_name, with_name, next_with, names_with}
use Rattle.mz_print_model.specs.StepsNames.{IsNextName, IsNextAt, AreNamesSoFar}

-- ---- one declaration

names_more : (xs : List TopName) (x : TopName) → top_names (xs ++ x ∷ []) ≡ top_names xs ++ top_name x ∷ []
names_more [] x = refl
names_more (y ∷ xs) x = ap (λ zs. top_name y ∷ zs) (names_more xs x)

var_first : (d : Decl) (ds : List Decl) (vs : List ParValue) (xs : List OutputName) → d.ty.ty.var ≡ true → names_with ds vs ≡ Some xs → names_with (d ∷ ds) vs ≡ Some (variable d.slot ∷ xs)
unfolding names_with
var_first d ds vs xs var h = ap (λ b. next_with b d.slot (names_with ds) vs) var ∙ ap (with_name (variable d.slot)) h

par_first : (d : Decl) (ds : List Decl) (v : ParValue) (vs : List ParValue) (xs : List OutputName) → d.ty.ty.var ≡ false → names_with ds vs ≡ Some xs → names_with (d ∷ ds) (v ∷ vs) ≡ Some (par_name d.slot v.value ∷ xs)
unfolding names_with
par_first d ds v vs xs var h = ap (λ b. next_with b d.slot (names_with ds) (v ∷ vs)) var ∙ ap (with_name (par_name d.slot v.value)) h

pub var_added : (d : Decl) (vs : List ParValue) (at : ℕ) (xs ys : List TopName) (x : TopName) → d.ty.ty.var ≡ true → top_name x ≡ variable d.slot → ys ≡ xs ++ x ∷ [] → IsNextName d vs at (top_names xs) at (top_names ys)
var_added d vs at xs ys x var is pushed = record {
  added = variable d.slot ∷ [];
  is = ap top_names pushed ∙ names_more xs x ∙ ap (λ z. top_names xs ++ z ∷ []) is;
  by = λ ds zs h. var_first d ds (drop at vs) zs var h;
}

pub par_named : (slot k : ℕ) (c : Cell) (v : Content) → slot ≡ k → c ≡ Par (Some v) → record { slot = slot; fixed = Some c } ≡ par_name k v
par_named slot k c v at is = rw (at, is) refl

value_there : (xs : List CodePar) (i : ℕ) (v : CodePar) → i < length xs → drop i (map par_value xs) ≡ par_value (get_or xs i v) ∷ drop (suc i) (map par_value xs)
value_there [] i v low = absurd (omega (arith, low))
value_there (x ∷ xs) zero v low = refl
value_there (x ∷ xs) (suc i) v low = value_there xs i v (omega (arith, low))

pub par_added : (d : Decl) (ps : List CodePar) (at next : ℕ) (v : CodePar) (xs ys : List TopName) (x : TopName) → d.ty.ty.var ≡ false → at < length ps → ys ≡ xs ++ x ∷ [] → top_name x ≡ par_name d.slot (content (get_or ps at v).value) → next ≡ at + 1
    → IsNextName d (map par_value ps) at (top_names xs) next (top_names ys)
par_added d ps at next v xs ys x var low pushed is n =
    let here = par_value (get_or ps at v) in
    let after : next ≡ suc at = omega (arith, n) in
    record {
      added = par_name d.slot (content (get_or ps at v).value) ∷ [];
      is = ap top_names pushed ∙ names_more xs x ∙ ap (λ z. top_names xs ++ z ∷ []) is;
      by = λ ds zs h.
          ap (names_with (d ∷ ds)) (value_there ps at v low)
          ∙ par_first d ds here (drop (suc at) (map par_value ps)) zs var (subst (λ k. names_with ds (drop k (map par_value ps)) ≡ Some zs) after h);
    }

-- ---- the declaration with a number

declared_there : (xs : List CoreDecl) (k : ℕ) (d : CoreDecl) → slice_get xs k ≡ Some d → slice_get (map decl xs) k ≡ Some (decl d)
declared_there [] k d h = absurd (cc)
declared_there (x ∷ xs) zero d h = let same : x ≡ d = cc in ap (λ z. Some (decl z)) same
declared_there (x ∷ xs) (suc k) d h = declared_there xs k d h

none_there : (xs : List CoreDecl) (k : ℕ) → slice_get xs k ≡ None → slice_get (map decl xs) k ≡ None
none_there [] k h = refl
none_there (x ∷ xs) zero h = absurd (cc)
none_there (x ∷ xs) (suc k) h = none_there xs k h

pub no_number : (ds : List CoreDecl) (vs : List ParValue) (k at : ℕ) (before : List OutputName) → slice_get ds k ≡ None → IsNextAt (map decl ds) vs k at before at before
no_number ds vs k at before e = record {
  added = [];
  is = sym (append-nil before);
  by = λ es xs h. ap (λ o. names_with (with_decl es o) (drop at vs)) (none_there ds k e) ∙ h;
}

pub this_number : (ds : List CoreDecl) (vs : List ParValue) (k at next : ℕ) (before after : List OutputName) (d : CoreDecl) → slice_get ds k ≡ Some d → IsNextName (decl d) vs at before next after → IsNextAt (map decl ds) vs k at before next after
this_number ds vs k at next before after d e n = record {
  added = n.added;
  is = n.is;
  by = λ es xs h. ap (λ o. names_with (with_decl es o) (drop at vs)) (declared_there ds k d e) ∙ n.by es xs h;
}

-- ---- those with all numbers

pub names_start : (all : List Decl) (vs : List ParValue) (ks : List ℕ) → AreNamesSoFar all vs ks ks 0 []
names_start all vs ks = record { by = λ xs h. h }

pub names_step : (all : List Decl) (vs : List ParValue) (ks : List ℕ) (i at next : ℕ) (before after : List OutputName) → i < length ks → AreNamesSoFar all vs ks (drop i ks) at before → IsNextAt all vs (get_or ks i 0) at before next after → AreNamesSoFar all vs ks (drop (i + 1) ks) next after
names_step all vs ks i at next before after low so n = record {
  by = λ xs h.
      so.by (n.added ++ xs) (ap (λ js. names_with (ordered all js) (drop at vs)) (drop_more ks i 0 low) ∙ n.by (ordered all (drop (i + 1) ks)) xs h)
      ∙ ap Some (sym (append_assoc before n.added xs) ∙ ap (λ ys. ys ++ xs) (sym n.is));
}

drop_all : (xs : List CodePar) → drop (length xs) (map par_value xs) ≡ []
drop_all [] = refl
drop_all (x ∷ xs) = drop_all xs

pub names_end : (all : List Decl) (ps : List CodePar) (ks rest : List ℕ) (at : ℕ) (names : List OutputName) → rest ≡ [] → at ≡ length ps → AreNamesSoFar all (map par_value ps) ks rest at names → names_with (ordered all ks) (map par_value ps) ≡ Some names
unfolding names_with
names_end all ps ks rest at names none last so =
    so.by [] (ap (λ js. names_with (ordered all js) (drop at (map par_value ps))) none ∙ ap (names_with []) (ap (λ k. drop k (map par_value ps)) last ∙ drop_all ps)) ∙ ap Some (append-nil names)
