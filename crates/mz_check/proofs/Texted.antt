-- The texts of a typed model are texts of the model: their names are in the table of names.
use Rattle.std.proofs.Common.{ℕ, ◌+◌, ◌<◌, List, [], ◌∷◌, ◌++◌, get_or}
use Rattle.std.specs.List.{flat_map}
use Rattle.mz_core.specs.Tree.{Tree, Decl, DeclaredType, declares, maybe, maybes}
use Rattle.mz_core.specs.Program.{Function, Goal, satisfy, minimize, maximize}
use Rattle.mz_tree.specs.Items.{FunctionTree}
use Rattle.mz_scope_order.specs.Parts.{decl_at, function_at}
use Rattle.mz_scope_order.specs.Scoped.{ScopedTree}
use Rattle.mz_scope_order.specs.Subjects.{AreOf, Subject, of_decl, of_function}
use Rattle.mz_check_meaning.specs.Tests.{◌>>=◌, ◌>>◌}
use Rattle.mz_check_meaning.specs.Items.{goal}
use Rattle.mz_core.specs.Nodes as nodes
use Rattle.mz_core.specs.Nodes.{nodes_in, in_maybe, in_maybes}
use Rattle.mz_check_meaning.specs.Texts.{texts_in, in_decl, in_type, in_function, in_goal}
use Rattle.mz_check_meaning.specs.Checks.{Sections}
use Rattle.mz_check_data.specs.WithData.{checked_with_data}
use Rattle.mz_check_data.proofs.Models.{AllowsFunction, AllowsModel, AllowsSubject, IsKeptFunction, IsKeptGoal, AreKeptSections, checked_kept}
use Rattle.mz_check_meaning.proofs.Giving.{AllBy, all_both, all_indexed, Gives, gives_more}
use Rattle.mz_check_meaning.proofs.Rules.{Rules}
use Rattle.mz_check_meaning.proofs.Leaves.{IsKept, IsKeptType, IsKeptDecl, items_kept, maybe_kept, maybes_kept}
use Rattle.mz_check_data.proofs.Texted.{texts, among}
use Rattle.mz_check_exprs.specs.NamedModels.{IsNamedFunction, AreNamed}
use Rattle.mz_check_exprs.proofs.Named.{type_named, decl_named, function_named}
use Rattle.mz_check.specs.StepsProgram.{AreTexted as HaveTexts, AreBelow}

module _ (k : ℕ) where
  abbrev Below : ℕ → Type 0
  Below n = n < k

  -- texts below k are allowed
  abbrev rules : Rules
  rules = texts Below

  -- ---- the names of a model are

  allowed_function : (f : FunctionTree) → IsNamedFunction k f → AllowsFunction rules f
  allowed_function f h = record { params = h.params; result = h.result; body = h.body }

  allowed_model : (s : ScopedTree) → AreNamed k s → AllowsModel rules s
  allowed_model s h = record {
    decls = h.decls;
    functions = λ i f low. allowed_function (get_or s.functions i f) (h.functions i f low);
    constraints = h.constraints;
    goal = h.goal;
    outputs = h.outputs;
  }

  allowed_subjects : (s : ScopedTree) (xs : List Subject) → AreNamed k s → AreOf s xs → AllBy (AllowsSubject rules s) xs
  allowed_subjects s [] h of = tt
  allowed_subjects s (of_decl d ∷ xs) h of = (type_named k (decl_at s.decls d) (decl_named k d s h of.0), allowed_subjects s xs h of.1)
  allowed_subjects s (of_function f ∷ xs) h of = (allowed_function (function_at s.functions f) (function_named k f s h of.0), allowed_subjects s xs h of.1)

  -- ---- the names in typed declarations and functions

  tree_below : (e : Tree) → IsKept rules e → AllBy Below (texts_in e)
  tree_below e h = among Below (nodes_in e) h

  decl_below : (d : Decl) → IsKeptDecl rules d → AllBy Below (in_decl d)
  decl_below d h = among Below (nodes.in_decl d) (items_kept rules (declares d ∷ []) (h, tt))

  decls_below : (ds : List Decl) → AllBy (IsKeptDecl rules) ds → AllBy Below (flat_map in_decl ds)
  decls_below [] h = tt
  decls_below (d ∷ ds) h = all_both Below (in_decl d) (flat_map in_decl ds) (decl_below d h.0) (decls_below ds h.1)

  type_below : (t : DeclaredType) → IsKeptType rules t → AllBy Below (in_type t)
  type_below t h = among Below (nodes.in_type t) (all_both rules.holds (in_maybes (maybes t.index)) (in_maybe (maybe t.set)) (maybes_kept rules t.index h.0) (maybe_kept rules t.set h.1))

  function_below : (f : Function) → IsKeptFunction rules f → AllBy Below (in_function f)
  function_below f h = all_both Below (flat_map in_decl f.params) (in_type f.result ++ texts_in f.body) (decls_below f.params h.0) (all_both Below (in_type f.result) (texts_in f.body) (type_below f.result h.1.0) (tree_below f.body h.1.1))

  goal_below : (g : Goal) → IsKeptGoal rules g → AllBy Below (in_goal g)
  goal_below satisfy h = tt
  goal_below (minimize e) h = tree_below e h
  goal_below (maximize e) h = tree_below e h

  all_below : {A : Type 0} (Q : A → Type 0) (names : A → List ℕ) (xs : List A) → ((x : A) → Q x → AllBy Below (names x)) → AllBy Q xs → AllBy (λ x. AreBelow k (names x)) xs
  all_below Q names [] go h = tt
  all_below Q names (x ∷ xs) go h = (all_indexed Below (names x) (go x h.0), all_below Q names xs go h.1)

  sections_texted : (all : Sections) → AreKeptSections rules all → HaveTexts k all
  sections_texted all h = record {
    decls = all_indexed (λ x. AreBelow k (in_decl x)) all.decls (all_below (IsKeptDecl rules) in_decl all.decls decl_below h.decls);
    functions = all_indexed (λ x. AreBelow k (in_function x)) all.functions (all_below (IsKeptFunction rules) in_function all.functions function_below h.functions);
    constraints = all_indexed (λ x. AreBelow k (texts_in x)) all.constraints (all_below (IsKept rules) texts_in all.constraints tree_below h.constraints);
    goal = all_indexed Below (in_goal all.goal) (goal_below all.goal h.goal);
    outputs = all_indexed (λ x. AreBelow k (texts_in x)) all.outputs (all_below (IsKept rules) texts_in all.outputs tree_below h.outputs);
  }

  pub checked_texted : (texts : List (List ℕ)) (s : ScopedTree) (order : List Subject) → AreNamed k s → AreOf s order → Gives (checked_with_data texts s order) (HaveTexts k)
  checked_texted texts s order named of =
      gives_more (AreKeptSections rules) (HaveTexts k) (checked_with_data texts s order) sections_texted
      (checked_kept rules texts s order (allowed_model s named) (allowed_subjects s order named of))
