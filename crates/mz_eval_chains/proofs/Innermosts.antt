-- The operators of a first and of a last operand, read from the code's expressions.
use Rattle.std.proofs.Common.{◌≡◌, ◌∙◌, ℕ, Bool, true, false, Option, Some, None, List, [], ◌∷◌, ◌++◌, map, length, refl, sym, ap, arith, if◌then◌else◌}
use Rattle.std.proofs.lemmas.List.{map-append}
use Rattle.std.specs.Option.{option_map}
use Rattle.mz_base.specs.declared.fault.Span.{Span}
use Rattle.mz_core.specs.declared.tree.Core.{Core}
use Rattle.mz_core.specs.declared.tree.CoreStep.{CoreStep}
use Rattle.mz_core.specs.declared.tree.CoreForm.TheViews.{out-CoreForm}
use Rattle.mz_core.specs.Types.{PlainType, plain_type}
use Rattle.mz_core.specs.Coercions.{PathLink}
use Rattle.mz_core.specs.Tree as trees
use Rattle.mz_core.specs.Tree.{Tree, Steps, layer, shape_of, place_of, type_of, steps, all_steps, root_coercions, node, chain, coerce}
use Rattle.mz_core.specs.TreeViews.{tree, step, form_layer}
use Rattle.mz_core.proofs.TreeLaws.{place_of_tree, type_of_tree, layer_tree}
use Rattle.mz_meaning.specs.Chains.{Innermost, Operator, innermost_of, innermost_in, back_of, back_in, backed, same_level, coerced_innermost, with_left, with_right, last_backed}
use Rattle.mz_core.specs.declared.types.Coercion.{Coercion}
use Rattle.mz_eval_chains.specs.Innermosts.{innermost_by, back_by, appends_at, place_after, last_with}

innermost_of_layer : (l : ℕ) (t : Tree) → innermost_of l t ≡ innermost_by l (place_of t) (type_of t) (layer (shape_of t))
unfolding innermost_of innermost_in
innermost_of_layer l (node at t (chain e ss)) = refl
innermost_of_layer l (node at t (coerce c e)) = refl
innermost_of_layer l (node at t f) = refl

pub innermost_of_tree : (l : ℕ) (e : Core) → innermost_of l (tree e) ≡ innermost_by l e.span (plain_type e.ty) (form_layer (out-CoreForm e.form))
innermost_of_tree l e =
    innermost_of_layer l (tree e)
    ∙ ap (λ p. innermost_by l p (type_of (tree e)) (layer (shape_of (tree e)))) (place_of_tree e)
    ∙ ap (λ t. innermost_by l e.span t (layer (shape_of (tree e)))) (type_of_tree e)
    ∙ ap (innermost_by l e.span (plain_type e.ty)) (layer_tree e)

steps_again : (ss : Steps) → steps (all_steps ss) ≡ ss
steps_again trees.no_steps = refl
steps_again (trees.a_step sp r t l m e ss) = ap (trees.a_step sp r t l m e) (steps_again ss)

-- a chain of `++`, if it is one
abbrev back_with : Bool → Tree → Span → Steps → Option Innermost
back_with b e at ss = if b then Some (record { first = e; operators = backed at ss; links = [] }) else None

back_of_layer : (t : Tree) → back_of t ≡ back_by (place_of t) (type_of t) (layer (shape_of t))
unfolding back_of back_in
back_of_layer (node at t (chain e ss)) = ap (back_with (same_level 12 (all_steps ss)) e at) (sym (steps_again ss))
back_of_layer (node at t (coerce c e)) = refl
back_of_layer (node at t f) = refl

pub back_of_tree : (e : Core) → back_of (tree e) ≡ back_by e.span (plain_type e.ty) (form_layer (out-CoreForm e.form))
back_of_tree e =
    back_of_layer (tree e)
    ∙ ap (λ p. back_by p (type_of (tree e)) (layer (shape_of (tree e)))) (place_of_tree e)
    ∙ ap (λ t. back_by e.span t (layer (shape_of (tree e)))) (type_of_tree e)
    ∙ ap (back_by e.span (plain_type e.ty)) (layer_tree e)

pub with_none : (ss : List trees.Step) → with_left [] ss ≡ ss
with_none [] = refl
with_none (s ∷ ss) = refl

pub coerced_last_with : (at : Span) (s : trees.Step) (ls : List PathLink) (l : PathLink) (o : Option Innermost) → last_with at s ls (option_map (coerced_innermost l) o) ≡ last_with at s ls o
coerced_last_with at s ls l None = refl
coerced_last_with at s ls l (Some f) = refl

-- the coercions of a last operand that is a chain are those round it
abbrev links_of : Tree → Option Innermost → Type 0
links_of t None = Unit {0}
links_of t (Some f) = f.links ≡ root_coercions t

coerced_links : (at : Span) (t : PlainType) (c : Coercion) (e : Tree) (o : Option Innermost) → links_of e o → links_of (node at t (coerce c e)) (option_map (coerced_innermost (c, t)) o)
coerced_links at t c e None h = tt
coerced_links at t c e (Some f) h = ap (λ ls. ls ++ ((c, t) ∷ [])) h

chain_links : (at : Span) (t : PlainType) (e : Tree) (ss : Steps) (b : Bool) → links_of (node at t (chain e ss)) (back_with b e at ss)
chain_links at t e ss true = refl
chain_links at t e ss false = tt

back_links : (t : Tree) → links_of t (back_of t)
unfolding back_of back_in
back_links (node at t (chain e ss)) = chain_links at t e ss (same_level 12 (all_steps ss))
back_links (node at t (coerce c e)) = coerced_links at t c e (back_of e) (back_links e)
back_links (node at t f) = tt

abbrev last_at : Span → trees.Step → Innermost → List PathLink → List Operator
last_at at s f ls = record { at = at; step = with_right ls f.first s } ∷ f.operators

last_by : (at : Span) (s : trees.Step) (t : Tree) (o : Option Innermost) → links_of t o → last_backed at s o ≡ last_with at s (root_coercions t) o
last_by at s t None h = refl
last_by at s t (Some f) h = ap (last_at at s f) h

pub last_is : (at : Span) (s : trees.Step) (t : Tree) → last_backed at s (back_of t) ≡ last_with at s (root_coercions t) (back_of t)
last_is at s t = last_by at s t (back_of t) (back_links t)

-- the operators of a chain of `++`: all but the last, and the last
abbrev put_first : Span → trees.Step → List Operator → List Operator
put_first at x os = record { at = at; step = x } ∷ os

pub backed_split : (at : Span) (xs : List trees.Step) (s : trees.Step) → backed at (steps (xs ++ (s ∷ []))) ≡ appends_at at xs ++ last_backed (place_after at xs) s (back_of s.operand)
unfolding backed
backed_split at [] s = refl
backed_split at (x ∷ []) s = refl
backed_split at (x ∷ y ∷ ys) s = ap (put_first at x) (backed_split x.start (y ∷ ys) s)

-- the operators of a chain of `++`, by the code's steps
pub backed_apart : (at : Span) (all others : List CoreStep) (s : CoreStep) → all ≡ others ++ (s ∷ []) → backed at (steps (map step all)) ≡ appends_at at (map step others) ++ last_with (place_after at (map step others)) (step s) (root_coercions (tree s.operand)) (back_of (tree s.operand))
backed_apart at all others s h =
    ap (λ xs. backed at (steps (map step xs))) h
    ∙ ap (λ xs. backed at (steps xs)) (map-append step others (s ∷ []))
    ∙ backed_split at (map step others) (step s)
    ∙ ap (λ os. appends_at at (map step others) ++ os) (last_is (place_after at (map step others)) (step s) (tree s.operand))

pub no_back : (at : Span) (all : List CoreStep) → length all ≡ 0 → backed at (steps (map step all)) ≡ []
unfolding backed
no_back at [] h = refl
no_back at (s ∷ ss) h = absurd (omega arith)

pub backed_made : (at : Span) (all others : List CoreStep) (x : CoreStep) (place : Span) (before begun made : List Operator) → before ≡ [] → begun ≡ before ++ appends_at at (map step others) → place ≡ place_after at (map step others) → made ≡ begun ++ last_with place (step x) (root_coercions (tree x.operand)) (back_of (tree x.operand)) → all ≡ others ++ (x ∷ []) → made ≡ backed at (steps (map step all))
backed_made at all others x place before begun made none first after last split =
    let end : Span → List Operator = λ y. last_with y (step x) (root_coercions (tree x.operand)) (back_of (tree x.operand)) in
    last
    ∙ ap (λ y. begun ++ end y) after
    ∙ ap (λ os. os ++ end (place_after at (map step others))) (first ∙ ap (λ os. os ++ appends_at at (map step others)) none)
    ∙ sym (backed_apart at all others x split)

pub backed_none : (at : Span) (all : List CoreStep) (before : List Operator) → before ≡ [] → length all ≡ 0 → before ≡ backed at (steps (map step all))
backed_none at all before none h = none ∙ sym (no_back at all h)
