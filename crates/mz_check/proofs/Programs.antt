-- A program is made of typed sections.
use Rattle.std.proofs.Common.{◌≡◌, ◌∙◌, ℕ, suc, ◌+◌, ◌<◌, List, [], ◌∷◌, ◌++◌, map, drop, length, get_or, ap, sym, append_assoc, arith}
use Rattle.std.proofs.lemmas.List.{map-append}
use Rattle.std.specs.Prelude.{All, IsPermutation}
use Rattle.std.specs.List.{flat_map}
use Rattle.std.proofs.lemmas.List.Elements.{All-nil, All-append}
use Rattle.std.proofs.lemmas.List.Sorted.{All-permutation, length_permutation}
use Rattle.mz_core.specs.Tree.{Decl}
use Rattle.mz_core.specs.Program.{Goal, PlainProgram, function}
use Rattle.mz_core.specs.TreeViews.{tree, decl}
use Rattle.mz_core.specs.declared.tree.Core.{Core}
use Rattle.mz_core.specs.declared.tree.CoreDecl.{CoreDecl}
use Rattle.mz_core.specs.declared.program.CoreFunction.{CoreFunction}
use Rattle.mz_scope_order.specs.Scoped.{ScopedTree}
use Rattle.mz_check_meaning.specs.Texts.{texts_in, in_decl, in_function, in_goal, once, all_texts, text_names}
use Rattle.mz_check_meaning.specs.Checks.{Sections, StandInSourceOrder, text_entry, IsProgramOf}
use Rattle.mz_check_data.specs.StepsLayers.{names_in}
use Rattle.mz_check.specs.StepsPlacing.{ArePlaces}
use Rattle.mz_check_data.specs.WithData.{AreNumbered}
use Rattle.mz_check.specs.StepsProgram.{case_texts, AreBelow, AreTexted}
use Rattle.mz_check.proofs.Keeping.{split}
use Rattle.mz_check.proofs.Placed.{found_all}

all_flat : {A : Type 0} (k : ℕ) (f : A → List ℕ) (xs : List A) → All (λ x. AreBelow k (f x)) xs → AreBelow k (flat_map f xs)
all_flat k f [] h = All-nil (λ n. n < k)
all_flat k f (x ∷ xs) h = All-append (λ n. n < k) (f x) (flat_map f xs) (h 0 x (omega arith)) (all_flat k f xs (λ i d low. h (suc i) d (omega (arith, low))))

-- the names of all texts, where the declarations stand in another order
pub all_named : (k : ℕ) (all : Sections) (ds : List Decl) → AreTexted k all → IsPermutation all.decls ds → AreBelow k (names_in ds all.functions all.constraints all.goal all.outputs)
all_named k all ds h p =
    let P : ℕ → Type 0 = λ n. n < k in
    All-append P (flat_map in_decl ds) _ (all_flat k in_decl ds (All-permutation (λ d. AreBelow k (in_decl d)) all.decls ds p h.decls))
    (All-append P (flat_map in_function all.functions) _ (all_flat k in_function all.functions h.functions)
    (All-append P (flat_map texts_in all.constraints) _ (all_flat k texts_in all.constraints h.constraints)
    (All-append P (in_goal all.goal) _ h.goal (all_flat k texts_in all.outputs h.outputs))))

-- the names in parts that are lent are those in the parts
pub same_names : (ds es : List CoreDecl) (fs gs : List CoreFunction) (cs bs os ps : List Core) (g : Goal) → es ≡ ds → gs ≡ fs → bs ≡ cs → ps ≡ os
    → names_in (map decl es) (map function gs) (map tree bs) g (map tree ps) ≡ names_in (map decl ds) (map function fs) (map tree cs) g (map tree os)
same_names ds es fs gs cs bs os ps g d f c o =
    ap (λ (xs : List CoreDecl). names_in (map decl xs) (map function gs) (map tree bs) g (map tree ps)) d
    ∙ ap (λ (xs : List CoreFunction). names_in (map decl ds) (map function xs) (map tree bs) g (map tree ps)) f
    ∙ ap (λ (xs : List Core). names_in (map decl ds) (map function fs) (map tree xs) g (map tree ps)) c
    ∙ ap (λ (xs : List Core). names_in (map decl ds) (map function fs) (map tree cs) g (map tree xs)) o

-- what the code's program is made of
pub record IsMade (names : List (List ℕ)) (s : ScopedTree) (all : Sections) (p : PlainProgram) : Type 0 where
  pub moved : IsPermutation all.decls p.decls
  pub ascending : StandInSourceOrder p.decls
  pub placed : ArePlaces p.decls p.order
  pub functions : p.functions ≡ all.functions
  pub constraints : p.constraints ≡ all.constraints
  pub goal : p.goal ≡ all.goal
  pub outputs : p.outputs ≡ all.outputs
  pub cases : p.cases ≡ map (case_texts names) s.enums
  pub texts : p.texts ≡ map (text_entry names) (once [] (names_in p.decls p.functions p.constraints p.goal p.outputs))

pub program_is : (names : List (List ℕ)) (s : ScopedTree) (all : Sections) (p : PlainProgram) → AreNumbered all.decls → IsMade names s all p → IsProgramOf names s all p
unfolding text_names all_texts
program_is names s all p numbered m = record {
  ascending = m.ascending;
  ordered = found_all all.decls p.decls p.order m.moved numbered m.placed;
  counted = length_permutation all.decls p.decls m.moved;
  functions = m.functions;
  constraints = m.constraints;
  goal = m.goal;
  outputs = m.outputs;
  cases = m.cases;
  text_of_each = m.texts;
}

-- one more element of a list is seen
pub one_listed : {S T A B : Type 0} (f : T → B) (g : S → T) (see : A → B) (xs : List S) (i : ℕ) (x : S) (whole : List B) (all more : List A) (y : A)
    → whole ≡ map see all ++ map f (map g (drop i xs)) → i < length xs → x ≡ get_or xs i x → see y ≡ f (g x) → more ≡ all ++ y ∷ [] → whole ≡ map see more ++ map f (map g (drop (i + 1) xs))
one_listed f g see xs i x whole all more y h low is e added =
    h ∙ ap (λ ys. map see all ++ map f (map g ys)) (split xs i x low is)
    ∙ ap (λ b. map see all ++ b ∷ map f (map g (drop (i + 1) xs))) (sym e)
    ∙ sym (append_assoc (map see all) (see y ∷ []) (map f (map g (drop (i + 1) xs))))
    ∙ ap (λ ys. ys ++ map f (map g (drop (i + 1) xs))) (sym (ap (map see) added ∙ map-append see all (y ∷ [])))
