-- The first place in the parts of a form, one after the other.
use Rattle.std.proofs.lemmas.List.{drop_all}
use Rattle.std.proofs.Common.{◌≡◌, ◌∙◌, ◌<◌, ◌≤◌, ◌+◌, ℕ, zero, suc, Bool, List, [], ◌∷◌, ◌++◌, Option, Some, None, Vec, Box, map, length, drop, get_or, sym, ap, arith}
use Rattle.std.specs.Global.{Global}
use Rattle.std.specs.List.{flat_map}
use Rattle.std.specs.Option.{option_map}
use Rattle.mz_base.specs.declared.fault.Span.{Span}
use Rattle.mz_core.specs.declared.tree.Core.{Core}
use Rattle.mz_core.specs.declared.tree.CoreForm.{CoreForm}
use Rattle.mz_core.specs.declared.tree.CoreForm.TheVariants as forms
use Rattle.mz_core.specs.declared.tree.CoreForm.TheViews.{out-CoreForm}
use Rattle.mz_core.specs.declared.tree.CoreGen.{CoreGen}
use Rattle.mz_core.specs.declared.tree.CoreItem.{CoreItem}
use Rattle.mz_core.specs.declared.tree.CoreStep.{CoreStep}
use Rattle.mz_core.specs.TreeViews.{tree, gen, step, item, branch, form_layer}
use Rattle.mz_model_unbounded.specs.Firsts.{first_place}
use Rattle.mz_meaning.specs.Unbounded.{unbounded_in}
use Rattle.mz_model_unbounded.specs.StepsLayers.{in_if, in_all, in_branch, in_step, in_generator, in_item, in_layer}
use Rattle.mz_model_unbounded.proofs.Firsts.{first_append, first_of_none}

-- ---- loops

-- the first place in what is left, where this is found so far
abbrev rest_of : {A : Type 0} → (A → List Span) → Option Span → List A → Option Span
rest_of f now xs = first_place now (flat_map f xs)

drop_here : {A : Type 0} (xs : List A) (i : ℕ) (x : A) → i < length xs → x ≡ get_or xs i x → drop i xs ≡ x ∷ drop (suc i) xs
drop_here [] i x h e = absurd (omega arith)
drop_here (y ∷ xs) zero x h e = ap (λ z. z ∷ xs) (sym e)
drop_here (y ∷ xs) (suc i) x h e = drop_here xs i x (omega arith) e

-- one part more
pub loop_more : {A B : Type 0} (g : A → B) (f : B → List Span) (xs : List A) (i : ℕ) (x : A) (start now next : Option Span) → i < length xs → x ≡ get_or xs i x → next ≡ first_place now (f (g x)) → first_place start (flat_map f (map g xs)) ≡ first_place now (flat_map f (map g (drop i xs))) → first_place start (flat_map f (map g xs)) ≡ first_place next (flat_map f (map g (drop (i + 1) xs)))
loop_more g f xs i x start now next h e n inv =
    let others = drop (i + 1) xs in
    let after : suc i ≡ i + 1 = omega arith in
    inv
    ∙ ap (λ ys. first_place now (flat_map f (map g ys))) (drop_here xs i x h e ∙ ap (λ k. x ∷ drop k xs) after)
    ∙ first_append now (f (g x)) (flat_map f (map g others))
    ∙ ap (λ m. first_place m (flat_map f (map g others))) (sym n)

pub loop_done : {A B : Type 0} (g : A → B) (f : B → List Span) (xs : List A) (i : ℕ) (start now : Option Span) → length xs ≤ i → first_place start (flat_map f (map g xs)) ≡ first_place now (flat_map f (map g (drop i xs))) → now ≡ first_place start (flat_map f (map g xs))
loop_done g f xs i start now h inv =
    sym (inv ∙ ap (λ ys. first_place now (flat_map f (map g ys))) (drop_all i xs h) ∙ first_of_none now)

-- ---- parts of a form

-- two parts
pub both : (xs ys : List Span) (start mid end : Option Span) → mid ≡ first_place start xs → end ≡ first_place mid ys → end ≡ first_place start (xs ++ ys)
both xs ys start mid end p q = q ∙ ap (λ m. first_place m ys) p ∙ sym (first_append start xs ys)

-- an expression that may be there
pub found_none : (m : Option Core) (now next : Option Span) → m ≡ None → next ≡ now → next ≡ first_place now (in_if (option_map tree m))
found_none m now next h e = e ∙ sym (first_of_none now) ∙ ap (λ o. first_place now (in_if (option_map tree o))) (sym h)

pub found_some : (m : Option Core) (x : Core) (now mid next : Option Span) → m ≡ Some x → mid ≡ first_place now (unbounded_in (tree x)) → next ≡ mid → next ≡ first_place now (in_if (option_map tree m))
found_some m x now mid next h p e = e ∙ p ∙ ap (λ o. first_place now (in_if (option_map tree o))) (sym h)

abbrev found_in : Option Span → CoreForm → Option Span
found_in start form = first_place start (in_layer (form_layer (out-CoreForm form)))

pub in_chain : (form : CoreForm) (b : Box Core Global) (w : Vec CoreStep Global) (x : Core) (ss : List CoreStep) (start mid end : Option Span) → form ≡ forms.Chain b w → x ≡ b.value → ss ≡ w.items → mid ≡ first_place start (unbounded_in (tree x)) → end ≡ first_place mid (flat_map in_step (map step ss)) → end ≡ found_in start form
in_chain form b w x ss start mid end is hx hs p q =
    both _ _ start mid end p q
    ∙ ap (λ y. first_place start (unbounded_in (tree y) ++ flat_map in_step (map step ss))) hx
    ∙ ap (λ ys. first_place start (unbounded_in (tree b.value) ++ flat_map in_step (map step ys))) hs
    ∙ ap (λ o. first_place start (in_layer (form_layer o))) (sym (forms.outs-Chain b w))
    ∙ ap (found_in start) (sym is)

pub in_access : (form : CoreForm) (b : Box Core Global) (w : Vec Core Global) (x : Core) (es : List Core) (start mid end : Option Span) → form ≡ forms.Access b w → x ≡ b.value → es ≡ w.items → mid ≡ first_place start (unbounded_in (tree x)) → end ≡ first_place mid (in_all (map tree es)) → end ≡ found_in start form
in_access form b w x es start mid end is hx hs p q =
    both _ _ start mid end p q
    ∙ ap (λ y. first_place start (unbounded_in (tree y) ++ in_all (map tree es))) hx
    ∙ ap (λ ys. first_place start (unbounded_in (tree b.value) ++ in_all (map tree ys))) hs
    ∙ ap (λ o. first_place start (in_layer (form_layer o))) (sym (forms.outs-Access b w))
    ∙ ap (found_in start) (sym is)

pub in_table : (form : CoreForm) (w : Vec (Vec Core Global) Global) (rs : List (Vec Core Global)) (start end : Option Span) → form ≡ forms.Rows w → rs ≡ w.items → end ≡ first_place start (flat_map in_all (map (λ r. map tree r.items) rs)) → end ≡ found_in start form
in_table form w rs start end is hs p =
    p
    ∙ ap (λ (ys : List (Vec Core Global)). first_place start (flat_map in_all (map (λ r. map tree r.items) ys))) hs
    ∙ ap (λ o. first_place start (in_layer (form_layer o))) (sym (forms.outs-Rows w))
    ∙ ap (found_in start) (sym is)

pub in_comp : (form : CoreForm) (k : Bool) (b : Box Core Global) (w : Vec CoreGen Global) (x : Core) (gs : List CoreGen) (start mid end : Option Span) → form ≡ forms.Comp k b w → x ≡ b.value → gs ≡ w.items → mid ≡ first_place start (unbounded_in (tree x)) → end ≡ first_place mid (flat_map in_generator (map gen gs)) → end ≡ found_in start form
in_comp form k b w x gs start mid end is hx hs p q =
    both _ _ start mid end p q
    ∙ ap (λ y. first_place start (unbounded_in (tree y) ++ flat_map in_generator (map gen gs))) hx
    ∙ ap (λ ys. first_place start (unbounded_in (tree b.value) ++ flat_map in_generator (map gen ys))) hs
    ∙ ap (λ o. first_place start (in_layer (form_layer o))) (sym (forms.outs-Comp k b w))
    ∙ ap (found_in start) (sym is)

pub in_let : (form : CoreForm) (w : Vec CoreItem Global) (b : Box Core Global) (is : List CoreItem) (x : Core) (start mid end : Option Span) → form ≡ forms.Let w b → is ≡ w.items → x ≡ b.value → mid ≡ first_place start (flat_map in_item (map item is)) → end ≡ first_place mid (unbounded_in (tree x)) → end ≡ found_in start form
in_let form w b is x start mid end f hs hx p q =
    both _ _ start mid end p q
    ∙ ap (λ y. first_place start (flat_map in_item (map item is) ++ unbounded_in (tree y))) hx
    ∙ ap (λ ys. first_place start (flat_map in_item (map item ys) ++ unbounded_in (tree b.value))) hs
    ∙ ap (λ o. first_place start (in_layer (form_layer o))) (sym (forms.outs-Let w b))
    ∙ ap (found_in start) (sym f)

pub in_choice : (form : CoreForm) (w : Vec (Core × Core) Global) (b : Box Core Global) (bs : List (Core × Core)) (x : Core) (start mid end : Option Span) → form ≡ forms.If w (Some b) → bs ≡ w.items → x ≡ b.value → mid ≡ first_place start (flat_map in_branch (map branch bs)) → end ≡ first_place mid (unbounded_in (tree x)) → end ≡ found_in start form
in_choice form w b bs x start mid end is hs hx p q =
    both _ _ start mid end p q
    ∙ ap (λ y. first_place start (flat_map in_branch (map branch bs) ++ unbounded_in (tree y))) hx
    ∙ ap (λ ys. first_place start (flat_map in_branch (map branch ys) ++ unbounded_in (tree b.value))) hs
    ∙ ap (λ o. first_place start (in_layer (form_layer o))) (sym (forms.outs-If w (Some b)))
    ∙ ap (found_in start) (sym is)
