-- Comprehensions over parts that have outlines.
use Rattle.std.proofs.Common.{◌≡◌, ℕ, Bool, true, false, List, [], ◌∷◌, ◌++◌, map, Option, Some, None, refl, ap, ◌∙◌}
use Rattle.std.specs.List.{enumerate_from}
use Rattle.mz_base.specs.declared.fault.Span.{Span}
use Rattle.mz_value.specs.Contents.{Content}
use Rattle.mz_value.specs.Contents as values
use Rattle.mz_value.specs.Shown.{elements}
use Rattle.mz_core.specs.declared.types.Base.{Base}
use Rattle.mz_core.specs.Tree.{Tree, Gen, type_of}
use Rattle.mz_operations.specs.Views.{items_in}
use Rattle.mz_operations.specs.Bounds as bounds
use Rattle.mz_meaning.specs.Runs.{Run, then_do, spend}
use Rattle.mz_meaning.specs.Cells.{Cell, Par, Var, Unshaped, Mode, Blank, Env, bind, Test, Settled, Open, test_of, is_true, value_of, Sure, both_sure, there}
use Rattle.mz_meaning.specs.Contexts.{Context}
use Rattle.mz_meaning.specs.Forms.{World, Eval}
use Rattle.mz_meaning.specs.Comprehensions as comps
use Rattle.mz_meaning.specs.Comprehensions.{Presence, Element, Made, Rest, both_occur, if_given, elements_in, set_elements, member, place_cell, surely, element_cell, present, counted_set, with_set}
use Rattle.mz_meaning.specs.Solutions.{Each}
use Rattle.mz_meaning_laws.specs.FreeLocals.{free_in, free_if}
use Rattle.mz_meaning_laws.specs.Outlines.{outline, outlines, outline_sure, outline_presence, outline_element, outline_made, blank_world, HasOutlines}
use Rattle.mz_meaning_laws.specs.Ties.{Tie, Ties, HasOutline, RestHasOutline, Allows, AllowsGen, EvalHasOutline}
use Rattle.mz_meaning_laws.proofs.Joins.{then_outlined, give_outlined, at_same, spend_outlined, loop_over_outlines}
use Rattle.mz_meaning_laws.proofs.Cells.{bounds_outline, test_outline, push_outline, both_sure_outline, there_outline, bind_outlined}
use Rattle.mz_meaning_laws.proofs.Forms.{ties_elsewhere}

-- ---- the elements of a generator

-- where each element is its outline in the blank run, so are all
each_element : {A : Type 0} (f g : A → Element) → ((x : A) → g x ≡ outline_element (f x)) → (xs : List A) → map g xs ≡ map outline_element (map f xs)
each_element f g h [] = refl
each_element f g h (x ∷ xs) = ap (λ y. y ∷ map g xs) (h x) ∙ ap (λ ys. outline_element (f x) ∷ ys) (each_element f g h xs)

set_elements_outline : (b : Base) (v : Option Content) → set_elements b v ≡ map outline_element (set_elements b v)
set_elements_outline b None = refl
set_elements_outline b (Some (values.set e rs)) = each_element (λ k. surely (element_cell b k)) (λ k. surely (element_cell b k)) (λ k. refl) (elements rs)
set_elements_outline b (Some (values.array ix xs)) = each_element (λ x. surely (Par (Some x))) (λ x. surely (Par (Some x))) (λ x. refl) (items_in xs)
set_elements_outline b (Some x) = refl

pub elements_in_outline : (m : Mode) (n : Bool) (b : Base) (c : Cell) → elements_in (Blank n) b (outline c) ≡ map outline_element (elements_in m b c)
elements_in_outline m n b (Par v) = set_elements_outline b v
elements_in_outline m n b (Var (bounds.one (bounds.sets l u)) v) = each_element (member m b v) (member (Blank n) b None) (λ k. refl) (elements u)
elements_in_outline m n b (Var (bounds.one (bounds.number e)) v) = refl
elements_in_outline m n b (Var (bounds.many ix bs) v) = each_element (place_cell m v) (place_cell (Blank n) None) (λ p. refl) (enumerate_from 0 bs)
elements_in_outline m n b (Unshaped d) = refl

-- ---- presence

pub both_occur_outline : (o p : Presence) → both_occur (outline_presence o) (outline_presence p) ≡ outline_presence (both_occur o p)
both_occur_outline None p = refl
both_occur_outline (Some a) None = refl
both_occur_outline (Some a) (Some b) = refl

present_outline : (m : Mode) (n : Bool) (o : Presence) (c : Cell) → present (Blank n) (outline_presence o) (outline c) ≡ outline (present m o c)
present_outline m n None c = refl
present_outline m n (Some b) c = ap (λ e. Var e None) (bounds_outline c)

counted_outline : (m : Mode) (n : Bool) (o : Presence) (s : Sure) → counted_set (Blank n) (outline_presence o) (outline_sure s) ≡ outline_sure (counted_set m o s)
counted_outline m n None s = refl
counted_outline m n (Some b) s = refl

with_set_outline : (m : Mode) (n : Bool) (o : Presence) (c : Cell) (a : Made) → with_set (Blank n) (outline_presence o) (outline c) (outline_made a) ≡ outline_made (with_set m o c a)
with_set_outline m n o c a =
    ap (λ s. record { cells = outlines a.cells; whole = s })
    (ap (both_sure (outline_sure a.whole)) (ap (counted_set (Blank n) (outline_presence o)) (there_outline c) ∙ counted_outline m n o (there c)) ∙ both_sure_outline a.whole (counted_set m o (there c)))

-- ---- the head, and `where`

pub added_outlined : {t : Tie} {n : Bool} {w : World} {top : Env} {go go' : Eval} → EvalHasOutline t n w top go go' → {c d : Context} → Ties t c d → (e : Tree) → Allows t (free_in e) → RestHasOutline t n (comps.added w.mode go c e) (comps.added (Blank n) go' d e)
added_outlined {n = n} {w = w} g h e z = record {
  by = λ i o a. then_outlined _ (g.by h e z i) (λ x. give_outlined (ap (λ cs. record { cells = cs; whole = outline_sure a.whole }) (ap (λ p. outlines a.cells ++ p ∷ []) (present_outline w.mode n o x) ∙ push_outline a.cells (present w.mode o x))));
}

filtered_outlined : {t : Tie} {n : Bool} (m : Mode) {rest rest' : Rest} → RestHasOutline t n rest rest' → {env env' : Env} → HasOutlines env env' → (o : Presence) (a : Made) (x : Cell) (k : Test) → HasOutline t n outline_made (comps.filtered m rest env o a x k) (comps.filtered (Blank n) rest' env' (outline_presence o) (outline_made a) (outline x) k)
filtered_outlined m r i o a x (Settled true) = r.by i o a
filtered_outlined m r i o a x (Settled false) = give_outlined refl
filtered_outlined m {rest' = rest'} r {env' = env'} i o a x Open =
    at_same (λ p. rest' env' p (outline_made a)) (both_occur_outline o (Some (if_given m (is_true (value_of x))))) (r.by i (both_occur o (Some (if_given m (is_true (value_of x))))) a)

where_outlined : {t : Tie} {n : Bool} {w : World} {top : Env} {go go' : Eval} → EvalHasOutline t n w top go go' → {c d : Context} → Ties t c d → (cond : Option Tree) → Allows t (free_if cond) → {rest rest' : Rest} → RestHasOutline t n rest rest' → RestHasOutline t n (comps.where_ w.mode go c cond rest) (comps.where_ (Blank n) go' d cond rest')
where_outlined g h None z r = record { by = r.by }
where_outlined {n = n} {w = w} g h (Some e) z {rest' = rest'} r = record {
  by = λ {env} {env'} i o a. then_outlined _ (g.by (ties_elsewhere h) e z i) (λ x. at_same (λ k. comps.filtered (Blank n) rest' env' (outline_presence o) (outline_made a) (outline x) k) (test_outline x) (filtered_outlined w.mode r i o a x (test_of x)));
}

-- ---- generators

-- one element more of a generator's name
abbrev one_element : World → Span → List Element → ℕ → List ℕ → Rest → Env → Presence → Made → Element → Run Made
one_element w at es s ss rest env o acc x = λ q. then_do (spend w.budget at 1 q) (λ u. comps.names w at es ss rest (bind s x.0 env) (both_occur o x.1) acc)

names_outlined : {t : Tie} {n : Bool} (w : World) (top : Env) (at : Span) (es : List Element) (ss : List ℕ) {rest rest' : Rest} → RestHasOutline t n rest rest' → RestHasOutline t n (comps.names w at es ss rest) (comps.names (blank_world n w top) at (map outline_element es) ss rest')
names_outlined w top at es [] r = record { by = r.by }
names_outlined {n = n} w top at es (s ∷ ss) {rest = rest} {rest' = rest'} r = record {
  by = λ {env} {env'} i o a.
      loop_over_outlines outline_element (one_element w at es s ss rest env o) (one_element (blank_world n w top) at (map outline_element es) s ss rest' env' (outline_presence o))
      (λ acc x. then_outlined _ (spend_outlined w.budget at 1)
      (λ u. at_same (λ p. comps.names (blank_world n w top) at (map outline_element es) ss rest' (bind s (outline x.0) env') p (outline_made acc)) (both_occur_outline o x.1) ((names_outlined w top at es ss r).by (bind_outlined s x.0 i) (both_occur o x.1) acc)))
      a es;
}

pub generators_outlined : {t : Tie} {n : Bool} {w : World} {top : Env} {go go' : Eval} → EvalHasOutline t n w top go go' → {c d : Context} → Ties t c d → (at : Span) (gs : List Gen) → Each (AllowsGen t) gs → {rest rest' : Rest} → RestHasOutline t n rest rest' → RestHasOutline t n (comps.generators w go c at gs rest) (comps.generators (blank_world n w top) go' d at gs rest')
generators_outlined g h at [] z r = record { by = r.by }
generators_outlined {n = n} {w = w} {top = top} {go' = go'} g {d = d} h at (x ∷ gs) z {rest' = rest'} r = record {
  by = λ {env} {env'} i o a.
      then_outlined _ (g.by (ties_elsewhere h) x.set z.0.sets i)
      (λ y. at_same (λ es. comps.names (blank_world n w top) at es x.slots (comps.where_ (Blank n) go' d x.cond (comps.generators (blank_world n w top) go' d at gs rest')) env' (outline_presence o) (with_set (Blank n) (outline_presence o) (outline y) (outline_made a))) (elements_in_outline w.mode n (type_of x.set).base y)
      (at_same (λ b. comps.names (blank_world n w top) at (map outline_element (elements_in w.mode (type_of x.set).base y)) x.slots (comps.where_ (Blank n) go' d x.cond (comps.generators (blank_world n w top) go' d at gs rest')) env' (outline_presence o) b) (with_set_outline w.mode n o y a)
      ((names_outlined w top at (elements_in w.mode (type_of x.set).base y) x.slots (where_outlined g h x.cond z.0.cond (generators_outlined g h at gs z.1 r))).by i o (with_set w.mode o y a))));
}
