-- The text doesn't depend on the values that free locals take.
use Rattle.std.proofs.Common.{◌≡◌, ◌∙◌, ℕ, Bool, true, false, List, [], ◌∷◌, ◌++◌, Option, Some, None, nat_eq, if◌then◌else◌, refl, sym, ap}
use Rattle.std.specs.List.{AllByRecursion}
use Rattle.mz_base.specs.declared.fault.Span.{Span}
use Rattle.mz_value.specs.Contents.{Content}
use Rattle.mz_core.specs.Tree.{Tree, place_of}
use Rattle.mz_meaning.specs.Runs.{State, Answer, Out, Stopped, start, then_do, give, loop}
use Rattle.mz_meaning.specs.Cells.{Cell, Par, Var, Unshaped, Bare, Given, value_of, is_par, undefined}
use Rattle.mz_meaning.specs.Contexts.{Untested}
use Rattle.mz_meaning.specs.Forms.{World}
use Rattle.mz_meaning.specs.Evaluation.{eval}
use Rattle.mz_meaning.specs.Walk.{Limits, Assignment, world_at, levels}
use Rattle.mz_meaning_laws.specs.Outlines.{outline, outline_state, blank_world, HasOutlines}
use Rattle.mz_meaning_laws.specs.Ties.{outline_answer}
use Rattle.mz_meaning_laws.specs.Independence.{IsParTree}
use Rattle.mz_meaning_laws.proofs.Consequences.{expressions_have_outlines}
use Rattle.mz_meaning_laws.proofs.Values.{value_is_given}
use Rattle.mz_core.specs.Program.{PlainProgram}
use Rattle.mz_print.specs.Output.{OutputName, IsParIf, IsParName, output_cell, output_env, OutputItem, output_item, output_items, joined_elements, joined_items, default_text, text_by, output_text, AreSameTexts, IsFreeOfChoices}

-- ---- names

par_outline : (c : Cell) → is_par c ≡ true → c ≡ outline c
par_outline (Par v) h = refl
par_outline (Var b v) h = cc
par_outline (Unshaped d) h = cc

cell_outline : (f : Option Cell) (v : Option Content) → IsParIf f → output_cell f v ≡ outline (output_cell f v)
cell_outline None v h = refl
cell_outline (Some c) v h = par_outline c h

bound_outline : (b : Bool) (c d : Cell) → c ≡ outline c → d ≡ outline d → (if b then c else d) ≡ outline (if b then c else d)
bound_outline true c d p q = p
bound_outline false c d p q = q

env_outline : (a : Assignment) (xs : List OutputName) → AllByRecursion IsParName xs → (k : ℕ) → output_env a xs k ≡ outline (output_env a xs k)
unfolding output_env
env_outline a [] h k = refl
env_outline a (x ∷ xs) h k = bound_outline (nat_eq k x.slot) (output_cell x.fixed (a x.slot)) (output_env a xs k) (cell_outline x.fixed (a x.slot) h.0) (env_outline a xs h.1 k)

-- ---- items

abbrev cell_in : Answer Cell → Cell
cell_in (Out c s) = c
cell_in (Stopped f) = undefined

abbrev erased : {A : Type 0} → Answer A → Answer A
erased r = outline_answer false (λ x. x) r

item_same : (w : World) → HasOutlines w.top w.top → (e : Tree) → IsParTree e → (items : List OutputItem) (s : State) → output_item (blank_world false w w.top) items e (outline_state false s) ≡ erased (output_item w items e s)
item_same w h e par items s = go (eval w levels Untested e w.top s) refl
  where
    blank : Answer Cell
    blank = eval (blank_world false w w.top) levels Untested e w.top (outline_state false s)

    tied : blank ≡ outline_answer false outline (eval w levels Untested e w.top s)
    tied = expressions_have_outlines w w.top h levels Untested e w.top w.top h s

    next : Cell → State → Answer (List OutputItem)
    next c = give (items ++ (place_of e, value_of c) ∷ [])

    go : (r : Answer Cell) → eval w levels Untested e w.top s ≡ r → then_do blank next ≡ erased (then_do (eval w levels Untested e w.top s) next)
    go (Stopped f) is = ap (λ x. then_do x next) (tied ∙ ap (λ x. outline_answer false outline x) is) ∙ sym (ap (λ x. erased (then_do x next)) is)
    go (Out c t) is =
        let given = value_is_given w w.top h levels Untested e par w.top w.top h s (value_of (outline c)) (outline_state false t) (ap (λ x. then_do x (λ y. give (value_of y))) (tied ∙ ap (λ x. outline_answer false outline x) is)) in
        let same : value_of c ≡ value_of (outline c) = ap (λ x. value_of (cell_in x)) (sym is ∙ given.is) in
        ap (λ x. then_do x next) (tied ∙ ap (λ x. outline_answer false outline x) is)
        ∙ (ap (λ v. Out (items ++ (place_of e, v) ∷ []) (outline_state false t)) (sym same)
        ∙ sym (ap (λ x. erased (then_do x next)) is))

after_items : {A B : Type 0} (next other : A → State → Answer B) → ((x : A) (t : State) → other x (outline_state false t) ≡ erased (next x t)) → (r : Answer A) → then_do (erased r) other ≡ erased (then_do r next)
after_items next other h (Out x t) = h x t
after_items next other h (Stopped f) = refl

items_same : (w : World) → HasOutlines w.top w.top → (es : List Tree) → AllByRecursion IsParTree es → (items : List OutputItem) (s : State) → loop (output_item (blank_world false w w.top)) items es (outline_state false s) ≡ erased (loop (output_item w) items es s)
items_same w h [] par items s = refl
items_same w h (e ∷ es) par items s =
    ap (λ r. then_do r (λ next. loop (output_item (blank_world false w w.top)) next es)) (item_same w h e par.0 items s)
    ∙ after_items (λ next. loop (output_item w) next es) (λ next. loop (output_item (blank_world false w w.top)) next es) (λ next t. items_same w h es par.1 next t) (output_item w items e s)

-- ---- texts

one_more : (t : List ℕ) (a b : Answer (List ℕ)) → AreSameTexts a b → AreSameTexts (then_do a (λ rest. give (t ++ rest))) (then_do b (λ rest. give (t ++ rest)))
one_more t (Out x s) (Out y r) h = (ap (λ z. t ++ z) h.0, h.1)
one_more t (Stopped f) (Stopped g) h = h
one_more t (Out x s) (Stopped g) h = absurd h
one_more t (Stopped f) (Out y r) h = absurd h

joined_same : (n : ℕ) (items : List OutputItem) (s r : State) → s.work ≡ r.work → AreSameTexts (joined_items n items s) (joined_items n items r)
joined_same n [] s r is = (refl, is)
joined_same n ((at, None) ∷ items) s r is = refl
joined_same n ((at, Some x) ∷ items) s r is = one_more (joined_elements x) (joined_items n items s) (joined_items n items r) (joined_same n items s r is)

all_joined : (n : ℕ) (a b : Answer (List OutputItem)) → b ≡ erased a → AreSameTexts (then_do b (joined_items n)) (then_do a (joined_items n))
all_joined n a b is = rw (is) (go a)
  where
    go : (a : Answer (List OutputItem)) → AreSameTexts (then_do (erased a) (joined_items n)) (then_do a (joined_items n))
    go (Out items s) = joined_same n items (outline_state false s) s refl
    go (Stopped f) = refl

text_same : (table : List (List ℕ)) (l : Limits) (p : PlainProgram) (xs : List OutputName) (a : Assignment) (n : ℕ) (choices : ℕ → Content) (es : List Tree) → AllByRecursion IsParName xs → AllByRecursion IsParTree es → AreSameTexts (text_by table l Bare p xs a n es start) (text_by table l (Given choices) p xs a n es start)
text_same table l p xs a n choices [] names par = (refl, refl)
text_same table l p xs a n choices (e ∷ es) names par =
    let w : World = world_at l (Given choices) p (output_env a xs) in
    let h : HasOutlines w.top w.top = record { at = env_outline a xs names } in
    all_joined n (output_items w (e ∷ es) start) (output_items (blank_world false w w.top) (e ∷ es) start) (items_same w h (e ∷ es) par [] start)

pub free_of_choices : IsFreeOfChoices
unfolding output_text
free_of_choices table l p xs a n choices names par = text_same table l p xs a n choices p.outputs names par
