-- The variables of declarations, one after the other.
use Rattle.std.proofs.Common.{◌≡◌, ◌∙◌, ℕ, zero, suc, ◌+◌, ◌<◌, true, false, List, [], ◌∷◌, length, map, drop, Some, None, slice_get, get_or, refl, sym, ap, subst, arith}
use Rattle.std.proofs.lemmas.List.{drop_more}
use Rattle.mz_core.specs.Tree.{Decl}
use Rattle.mz_core.specs.TreeViews.{decl}
use Rattle.mz_core.specs.declared.tree.CoreDecl.{CoreDecl}
use Rattle.mz_arena.specs.Instances.{ModelVar, model_var}
use Rattle.mz_arena.specs.declared.instance.ModelVar.{ModelVar as CodeVar}
use Rattle.mz_meaning.specs.Walk.{ordered, with_decl}
use Rattle.mz_model_meaning.specs.Modeled.{AreVarsOf, IsHead, IsVarOf, var_tail}
use Rattle.mz_model.specs.Matching.{IsNextOf, AreNextAt, AreVarsFrom}
use Rattle.mz_model.proofs.Declared.{declared_there, none_there}

-- ---- one declaration

var_there : (xs : List CodeVar) (i : ℕ) (m : CodeVar) → slice_get xs i ≡ Some m → drop i (map model_var xs) ≡ model_var m ∷ drop (suc i) (map model_var xs)
var_there [] zero m e = absurd (cc)
var_there [] (suc i) m e = absurd (cc)
var_there (x ∷ xs) zero m e = let same : x ≡ m = cc in ap (λ y. model_var y ∷ map model_var xs) same
var_there (x ∷ xs) (suc i) m e = var_there xs i m e

pub par_next : (d : Decl) (vs : List ModelVar) (at : ℕ) → d.ty.ty.var ≡ false → IsNextOf d vs at at
par_next d vs at h = record { by = λ ds rest. subst (λ b. IsHead b d (drop at vs) × AreVarsOf ds (var_tail b (drop at vs))) (sym h) (tt, rest) }

pub var_next : (d : Decl) (xs : List CodeVar) (at next : ℕ) (m : CodeVar) → d.ty.ty.var ≡ true → slice_get xs at ≡ Some m → IsVarOf d (model_var m) → next ≡ at + 1 → IsNextOf d (map model_var xs) at next
var_next d xs at next m h e is n =
    let after : suc at ≡ next = omega (arith, n) in
    record {
      by = λ ds rest.
          subst (λ b. IsHead b d (drop at (map model_var xs)) × AreVarsOf ds (var_tail b (drop at (map model_var xs)))) (sym h)
          (subst (λ ws. IsHead true d ws × AreVarsOf ds (var_tail true ws)) (sym (var_there xs at m e))
          (is, subst (λ k. AreVarsOf ds (drop k (map model_var xs))) (sym after) rest));
    }

-- ---- the declaration with a number

pub no_number : (xs : List CoreDecl) (vs : List ModelVar) (k at : ℕ) → slice_get xs k ≡ None → AreNextAt (map decl xs) vs k at at
no_number xs vs k at e = record { by = λ ds rest. subst (λ o. AreVarsOf (with_decl ds o) (drop at vs)) (sym (none_there xs k e)) rest }

pub this_number : (xs : List CoreDecl) (vs : List ModelVar) (k at next : ℕ) (d : CoreDecl) → slice_get xs k ≡ Some d → IsNextOf (decl d) vs at next → AreNextAt (map decl xs) vs k at next
this_number xs vs k at next d e n = record { by = λ ds rest. subst (λ o. AreVarsOf (with_decl ds o) (drop at vs)) (sym (declared_there xs k d e)) (n.by ds rest) }

-- ---- those with all numbers

pub vars_start : (all : List Decl) (vs : List ModelVar) (ks : List ℕ) → AreVarsFrom all vs ks ks 0
vars_start all vs ks = record { by = λ h. h }

pub vars_step : (all : List Decl) (vs : List ModelVar) (ks : List ℕ) (i at next : ℕ) → i < length ks → AreVarsFrom all vs ks (drop i ks) at → AreNextAt all vs (get_or ks i 0) at next → AreVarsFrom all vs ks (drop (i + 1) ks) next
vars_step all vs ks i at next low so n = record { by = λ h. so.by (subst (λ js. AreVarsOf (ordered all js) (drop at vs)) (sym (drop_more ks i 0 low)) (n.by (ordered all (drop (i + 1) ks)) h)) }

drop_all : (xs : List CodeVar) → drop (length xs) (map model_var xs) ≡ []
drop_all [] = refl
drop_all (x ∷ xs) = drop_all xs

pub vars_end : (all : List Decl) (xs : List CodeVar) (ks rest : List ℕ) (at : ℕ) → rest ≡ [] → at ≡ length xs → AreVarsFrom all (map model_var xs) ks rest at → AreVarsOf (ordered all ks) (map model_var xs)
vars_end all xs ks rest at none last so = so.by (subst (λ js. AreVarsOf (ordered all js) (drop at (map model_var xs))) (sym none) (subst (λ ws. AreVarsOf [] ws) (sym (ap (λ k. drop k (map model_var xs)) last ∙ drop_all xs)) tt))
