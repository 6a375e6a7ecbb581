-- Declarations without a bound in the items of a program.
use Rattle.std.proofs.Common.{◌≡◌, ◌∙◌, ◌&&◌, ◌||◌, Bool, List, [], ◌∷◌, ◌++◌, Option, Some, None, map, is_none, refl, sym, ap, append-nil, append_assoc}
use Rattle.std.specs.List.{flat_map, list_any}
use Rattle.mz_base.specs.declared.fault.Span.{Span}
use Rattle.mz_core.specs.declared.tree.Core.{Core}
use Rattle.mz_core.specs.declared.program.CoreGoal.{CoreGoal}
use Rattle.mz_core.specs.declared.program.CoreGoal.TheVariants as goals
use Rattle.mz_core.specs.declared.program.Program.{Program}
use Rattle.mz_core.specs.Tree.{Tree, Decl, DeclaredType, declares, items, maybes, maybe, if_tree, all_items, all_maybes}
use Rattle.mz_core.specs.TreeViews.{tree, decl}
use Rattle.mz_core.specs.Program.{Function, function, goal, plain_program}
use Rattle.mz_meaning.specs.Unbounded as meaning
use Rattle.mz_meaning.specs.Unbounded.{unbounded_in, in_decl, in_goal, in_maybe, in_maybes, first_unbounded}
use Rattle.mz_model_unbounded.specs.Firsts.{first_place}
use Rattle.mz_model_unbounded.specs.StepsLayers.{in_if, in_sets, in_type, in_local, in_param, in_function, in_item, in_all}
use Rattle.mz_model_unbounded.proofs.Firsts.{first_of_none, first_of_all}
use Rattle.mz_model_unbounded.proofs.Layers.{maybe_is, maybes_are, items_are}
use Rattle.mz_model_unbounded.proofs.Walking.{both}

-- ---- the parts of a declaration as the tree has them

maybe_back : (m : Option Tree) → if_tree (maybe m) ≡ m
maybe_back None = refl
maybe_back (Some e) = refl

maybes_back : (ms : List (Option Tree)) → all_maybes (maybes ms) ≡ ms
maybes_back [] = refl
maybes_back (m ∷ ms) = ap (λ o. o ∷ all_maybes (maybes ms)) (maybe_back m) ∙ ap (λ os. m ∷ os) (maybes_back ms)

set_place : (m : Option Tree) → in_maybe (maybe m) ≡ in_if m
set_place m = maybe_is (maybe m) ∙ ap in_if (maybe_back m)

sets_place : (ms : List (Option Tree)) → in_maybes (maybes ms) ≡ in_sets ms
sets_place ms = maybes_are (maybes ms) ∙ ap in_sets (maybes_back ms)

type_place : (t : DeclaredType) → in_maybes (maybes t.index) ++ in_maybe (maybe t.set) ≡ in_type t
type_place t = ap (λ ps. ps ++ in_maybe (maybe t.set)) (sets_place t.index) ∙ ap (λ ps. in_sets t.index ++ ps) (set_place t.set)

-- ---- a function

params_place : (ds : List Decl) → flat_map meaning.in_sets ds ≡ flat_map in_param ds
params_place [] = refl
params_place (d ∷ ds) = ap (λ ps. ps ++ flat_map meaning.in_sets ds) (type_place d.ty) ∙ ap (λ ps. in_type d.ty ++ ps) (params_place ds)

function_same : (f : Function) → meaning.in_function f ≡ in_function f
function_same f =
    ap (λ ps. ps ++ (in_maybes (maybes f.result.index) ++ (in_maybe (maybe f.result.set) ++ unbounded_in f.body))) (params_place f.params)
    ∙ ap (λ ps. flat_map in_param f.params ++ ps) (sym (append_assoc (in_maybes (maybes f.result.index)) (in_maybe (maybe f.result.set)) (unbounded_in f.body)))
    ∙ ap (λ ps. flat_map in_param f.params ++ (ps ++ unbounded_in f.body)) (type_place f.result)

functions_same : (fs : List Function) → flat_map meaning.in_function fs ≡ flat_map in_function fs
functions_same [] = refl
functions_same (f ∷ fs) = ap (λ ps. ps ++ flat_map meaning.in_function fs) (function_same f) ∙ ap (λ ps. in_function f ++ ps) (functions_same fs)

-- ---- a declaration

item_back : (d : Decl) → all_items (items (declares d ∷ [])) ≡ declares d ∷ []
item_back d =
    ap (λ ixs. declares (record { slot = d.slot; name = d.name; span = d.span; ty = record { span = d.ty.span; ty = d.ty.ty; index = ixs; set = if_tree (maybe d.ty.set) }; value = if_tree (maybe d.value) }) ∷ []) (maybes_back d.ty.index)
    ∙ ap (λ set. declares (record { slot = d.slot; name = d.name; span = d.span; ty = record { span = d.ty.span; ty = d.ty.ty; index = d.ty.index; set = set }; value = if_tree (maybe d.value) }) ∷ []) (maybe_back d.ty.set)
    ∙ ap (λ value. declares (record { slot = d.slot; name = d.name; span = d.span; ty = d.ty; value = value }) ∷ []) (maybe_back d.value)

decl_same : (d : Decl) → in_decl d ≡ in_local d
decl_same d = items_are (items (declares d ∷ [])) ∙ ap (flat_map in_item) (item_back d) ∙ append-nil (in_local d)

decls_same : (ds : List Decl) → flat_map in_decl ds ≡ flat_map in_local ds
decls_same [] = refl
decls_same (d ∷ ds) = ap (λ ps. ps ++ flat_map in_decl ds) (decl_same d) ∙ ap (λ ps. in_local d ++ ps) (decls_same ds)

-- ---- an objective

pub no_goal : (g : CoreGoal) → g ≡ goals.Satisfy → in_goal (goal g) ≡ []
no_goal g h = ap (λ x. in_goal (goal x)) h

pub least_goal : (g : CoreGoal) (e : Core) → g ≡ goals.Minimize e → in_goal (goal g) ≡ unbounded_in (tree e)
least_goal g e h = ap (λ x. in_goal (goal x)) h

pub greatest_goal : (g : CoreGoal) (e : Core) → g ≡ goals.Maximize e → in_goal (goal g) ≡ unbounded_in (tree e)
greatest_goal g e h = ap (λ x. in_goal (goal x)) h

-- ---- a function and a program

pub function_place : (f : Function) (start mid more end : Option Span) → mid ≡ first_place start (flat_map in_param f.params) → more ≡ first_place mid (in_type f.result) → end ≡ first_place more (unbounded_in f.body) → end ≡ first_place start (in_function f)
function_place f start mid more end p q r = both _ _ start mid end p (both _ _ mid more end q r)

pub program_place : (p : Program) (a b c d e : Option Span) → a ≡ first_place None (flat_map in_local (map decl p.decls.items)) → b ≡ first_place a (flat_map in_function (map function p.functions.items)) → c ≡ first_place b (in_all (map tree p.constraints.items)) → d ≡ first_place c (in_goal (goal p.goal)) → e ≡ first_place d (in_all (map tree p.outputs.items)) → e ≡ first_unbounded (plain_program p)
unfolding first_unbounded plain_program
program_place p a b c d e ha hb hc hd he =
    both _ _ None a e (ha ∙ ap (first_place None) (sym (decls_same (map decl p.decls.items))))
    (both _ _ a b e (hb ∙ ap (first_place a) (sym (functions_same (map function p.functions.items))))
    (both _ _ b c e hc
    (both _ _ c d e hd he)))
    ∙ first_of_all (meaning.all_unbounded (plain_program p))
