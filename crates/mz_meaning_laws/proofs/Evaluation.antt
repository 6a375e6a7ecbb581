-- All forms, and so each expression: a run with values has the outline that a blank run gives.
use Rattle.std.proofs.Common.{◌≡◌, ℕ, zero, suc, pos, Bool, true, false, List, [], Option, Some, None, refl, ap, ◌∙◌, option_map, slice_get}
use Rattle.mz_base.specs.declared.fault.Span.{Span}
use Rattle.mz_base.specs.declared.kind.Kind.TheVariants as kind
use Rattle.mz_value.specs.Contents as values
use Rattle.mz_core.specs.Types.{PlainType}
use Rattle.mz_core.specs.Tree.{Tree, Shape, Layer, Gen, layer, shape_of, place_of, type_of, inner_tree, root_coercions}
use Rattle.mz_core.specs.Tree as tree
use Rattle.mz_meaning.specs.Cells.{Cell, Par, Var, Unshaped, Mode, Blank, Env, par_value_of, sealed, guarded, typed}
use Rattle.mz_meaning.specs.Coerced.{enum_in}
use Rattle.mz_meaning.specs.Arrays.{set_cell, set_from}
use Rattle.mz_meaning.specs.Contexts.{Context}
use Rattle.mz_meaning.specs.Forms as forms
use Rattle.mz_meaning.specs.Forms.{World, Eval}
use Rattle.mz_meaning.specs.Comprehensions.{made_cell, nothing_made, comprehension}
use Rattle.mz_meaning.specs.Evaluation.{node, is_name, eval}
use Rattle.mz_meaning.specs.Solutions.{Each}
use Rattle.mz_meaning_laws.specs.FreeLocals.{free_in, free_in_form, free_in_maybe, free_in_trees, free_in_branches, free_in_steps, free_in_gens, free_in_items}
use Rattle.mz_meaning_laws.specs.Outlines.{outline, outlines, outline_sure, blank_world, HasOutlines}
use Rattle.mz_meaning_laws.specs.Ties.{Tie, Ties, HasOutline, HasNotes, Allows, AllowsTree, AllowsIf, AllowsStep, AllowsGen, AllowsBranch, AllowsItem, AllowsFound, EvalHasOutline}
use Rattle.mz_meaning_laws.proofs.Joins.{then_outlined, stop_outlined, at_same}
use Rattle.mz_meaning_laws.proofs.Cells.{map_outline, sealed_outline, typed_outline, guarded_outline}
use Rattle.mz_meaning_laws.proofs.Rows.{done_outlined}
use Rattle.mz_meaning_laws.proofs.Arrays.{line_outline}
use Rattle.mz_meaning_laws.proofs.Allowed.{allows_left, allows_right, maybe_allows, trees_allow, rows_allow, branches_allow, steps_allow, gens_allow, items_allow, inner_allows}
use Rattle.mz_meaning_laws.proofs.Forms.{ties_within, parts_outlined, coerced_by_outlined, builtin_outlined, chain_outlined, array_outlined, table_outlined, access_outlined, branches_outlined}
use Rattle.mz_meaning_laws.proofs.Comprehensions.{added_outlined, generators_outlined}
use Rattle.mz_meaning_laws.proofs.Lets.{let_outlined}
use Rattle.mz_meaning_laws.proofs.Calls.{call_outlined}

-- ---- sets, which are made of par cells alone

par_value_outline : (c : Cell) → par_value_of (outline c) ≡ par_value_of c
par_value_outline (Par v) = refl
par_value_outline (Var b v) = refl
par_value_outline (Unshaped d) = refl

set_cell_outline : (ty : PlainType) (cs : List Cell) → set_cell ty (outlines cs) ≡ outline (set_cell ty cs)
set_cell_outline ty cs = ap (λ vs. Par (option_map (values.set (enum_in ty.base)) (set_from (Some []) vs))) (map_outline par_value_of par_value_outline cs)

set_outlined : {t : Tie} {n : Bool} {w : World} {top : Env} {go go' : Eval} → EvalHasOutline t n w top go go' → {c d : Context} → Ties t c d → (es : List Tree) → Each (AllowsTree t) es → (at : Span) (ty : PlainType) {env env' : Env} → HasOutlines env env' → HasOutline t n outline (forms.set w go c es at ty env) (forms.set (blank_world n w top) go' d es at ty env')
set_outlined {w = w} {top = top} g h es z at ty i = then_outlined _ (parts_outlined g h es z i) (λ cs. done_outlined w top at (set_cell ty cs) (set_cell_outline ty cs))

-- ---- comprehensions

made_outline : (m : Mode) (n : Bool) (ty : PlainType) (braces : Bool) (cs : List Cell) → made_cell (Blank n) ty braces (outlines cs) ≡ outline (made_cell m ty braces cs)
made_outline m n ty true cs = set_cell_outline ty cs
made_outline m n ty false cs = line_outline m n cs

comprehension_outlined : {t : Tie} {n : Bool} {w : World} {top : Env} {go go' : Eval} → EvalHasOutline t n w top go go' → {c d : Context} → Ties t c d → (braces : Bool) (e : Tree) (gs : List Gen) → Allows t (free_in e) → Each (AllowsGen t) gs → (at : Span) (ty : PlainType) {env env' : Env} → HasOutlines env env' → HasOutline t n outline (comprehension w go c braces e gs at ty env) (comprehension (blank_world n w top) go' d braces e gs at ty env')
comprehension_outlined {n = n} {w = w} {top = top} g h braces e gs y z at ty i =
    then_outlined _ ((generators_outlined g h at gs z (added_outlined g h e y)).by i None nothing_made)
    (λ a. done_outlined w top at (guarded w.mode ty a.whole (sealed w.mode ty.var ty (made_cell w.mode ty braces a.cells)))
    (ap (guarded (Blank n) ty (outline_sure a.whole)) (ap (sealed (Blank n) ty.var ty) (made_outline w.mode n ty braces a.cells) ∙ sealed_outline w.mode n ty.var ty (made_cell w.mode ty braces a.cells)) ∙ guarded_outline w.mode n ty a.whole (sealed w.mode ty.var ty (made_cell w.mode ty braces a.cells))))

-- ---- all forms

-- of one layer
abbrev AllowsLayer : Tie → Layer → Type 0
AllowsLayer t (tree.chain_form e ss) = Allows t (free_in e) × Each (AllowsStep t) ss
AllowsLayer t (tree.builtin_form k es) = Each (AllowsTree t) es
AllowsLayer t (tree.call_form f es) = Each (AllowsTree t) es
AllowsLayer t (tree.access_form e es) = Allows t (free_in e) × Each (AllowsTree t) es
AllowsLayer t (tree.array_form es) = Each (AllowsTree t) es
AllowsLayer t (tree.rows_form rs) = Each (λ r. Each (AllowsTree t) r) rs
AllowsLayer t (tree.set_form es) = Each (AllowsTree t) es
AllowsLayer t (tree.comp_form braces e gs) = Allows t (free_in e) × Each (AllowsGen t) gs
AllowsLayer t (tree.if_form bs els) = Each (AllowsBranch t) bs × AllowsIf t els
AllowsLayer t (tree.let_form is e) = Each (AllowsItem t) is × Allows t (free_in e)
AllowsLayer t l = Unit {0}

layer_allows : (t : Tie) (f : Shape) → Allows t (free_in_form f) → AllowsLayer t (layer f)
unfolding free_in_form
layer_allows t (tree.chain e ss) h = (allows_left t (free_in e) (free_in_steps ss) h, steps_allow t ss (allows_right t (free_in e) (free_in_steps ss) h))
layer_allows t (tree.builtin k es) h = trees_allow t es h
layer_allows t (tree.call f es) h = trees_allow t es h
layer_allows t (tree.access e es) h = (allows_left t (free_in e) (free_in_trees es) h, trees_allow t es (allows_right t (free_in e) (free_in_trees es) h))
layer_allows t (tree.array es) h = trees_allow t es h
layer_allows t (tree.rows rs) h = rows_allow t rs h
layer_allows t (tree.set es) h = trees_allow t es h
layer_allows t (tree.comp braces e gs) h = (allows_left t (free_in e) (free_in_gens gs) h, gens_allow t gs (allows_right t (free_in e) (free_in_gens gs) h))
layer_allows t (tree.choice bs els) h = (branches_allow t bs (allows_left t (free_in_branches bs) (free_in_maybe els) h), maybe_allows t els (allows_right t (free_in_branches bs) (free_in_maybe els) h))
layer_allows t (tree.let_in is e) h = (items_allow t is (allows_left t (free_in_items is) (free_in e) h), allows_right t (free_in_items is) (free_in e) h)
layer_allows t f h = tt

text_outline : (s : Option (List ℕ)) → forms.text_cell s ≡ outline (forms.text_cell s)
text_outline None = refl
text_outline (Some s) = refl

node_outlined : {t : Tie} {n : Bool} {w : World} {top : Env} {go go' : Eval} → EvalHasOutline t n w top go go' → {c d : Context} → Ties t c d → (l : Layer) → AllowsLayer t l → (at : Span) (ty : PlainType) {env env' : Env} → HasOutlines env env' → HasOutline t n outline (node w go c l at ty env) (node (blank_world n w top) go' d l at ty env')
node_outlined {w = w} {top = top} g h (tree.slot_form s) z at ty i = done_outlined w top at _ (i.at s)
node_outlined {w = w} {top = top} g h (tree.text_form k) z at ty i = done_outlined w top at _ (text_outline (forms.text_at w.texts k))
node_outlined g h (tree.chain_form e ss) z at ty i = chain_outlined g h e ss z.0 z.1 at i
node_outlined g h (tree.builtin_form k es) z at ty i = builtin_outlined g h k es z at ty i
node_outlined g h (tree.call_form f es) z at ty i = call_outlined g h f es z at i
node_outlined g h (tree.access_form e es) z at ty i = access_outlined g h e es z.0 z.1 at ty i
node_outlined g h (tree.array_form es) z at ty i = array_outlined g h es z at i
node_outlined g h (tree.rows_form rs) z at ty i = table_outlined g h rs z at i
node_outlined g h (tree.set_form es) z at ty i = set_outlined g h es z at ty i
node_outlined g h (tree.comp_form braces e gs) z at ty i = comprehension_outlined g h braces e gs z.0 z.1 at ty i
node_outlined g h (tree.if_form bs els) z at ty i = branches_outlined g h bs els z.0 z.1 at ty i []
node_outlined g h (tree.let_form is e) z at ty i = let_outlined g h is e z.0 z.1 at ty i
node_outlined {w = w} {top = top} g h l z at ty i = done_outlined w top at _ refl

-- THE BLANK RUN GIVES THE OUTLINE OF EACH RUN, of as many levels
pub eval_outlined : {t : Tie} {n : Bool} (w : World) (top : Env) → HasNotes n w.mode → HasOutlines w.top top → ((k : ℕ) → AllowsFound t (slice_get w.functions k)) → (levels : ℕ) → EvalHasOutline t n w top (eval w levels) (eval (blank_world n w top) levels)
unfolding eval
eval_outlined w top z k a zero = record { notes = z; tops = k; functions = a; by = λ h e y i. stop_outlined kind.Depth (place_of (inner_tree e)) (pos 601) }
eval_outlined {t = t} {n = n} w top z k a (suc q) = record {
  notes = z;
  tops = k;
  functions = a;
  by = λ h e y i.
      then_outlined _ (node_outlined (eval_outlined w top z k a q) (ties_within (root_coercions e) h) (layer (shape_of (inner_tree e))) (layer_allows t (shape_of (inner_tree e)) (inner_allows t e y)) (place_of (inner_tree e)) (type_of (inner_tree e)) i)
      (λ c. at_same (λ x. forms.coerced_by (blank_world n w top) (place_of (inner_tree e)) (root_coercions e) x) (typed_outline w.mode n (is_name (layer (shape_of (inner_tree e)))) (type_of (inner_tree e)) c)
      (coerced_by_outlined w top (place_of (inner_tree e)) (root_coercions e) (typed w.mode (is_name (layer (shape_of (inner_tree e)))) (type_of (inner_tree e)) c)));
}
