-- What an expression uses, by its form.
use Rattle.std.proofs.Common.{◌≡◌, suc, ℤ, Bool, false, arith, length, List, [], ◌∷◌, ◌++◌, refl, ap, sym, ◌∙◌, map, append_assoc, append-nil, Vec, Box, Option, Some, None, Result, OnOk}
use Rattle.std.proofs.lemmas.Result.{on_ok_weaker}
use Rattle.std.specs.Global.{Global}
use Rattle.std.specs.List.{flat_map}
use Rattle.std.specs.Prelude.{nat_eq}
use Rattle.std.proofs.lemmas.Bool.{ne_eqb}
use Rattle.mz_tree.specs.declared.expr.PlacedOp.{PlacedOp}
use Rattle.mz_tree.specs.declared.expr.UnOp.{UnOp}
use Rattle.mz_tree.specs.declared.expr.TextPart.{TextPart}
use Rattle.mz_tree.specs.declared.expr.Expr.{Expr}
use Rattle.mz_tree.specs.declared.expr.Gen.{Gen}
use Rattle.mz_tree.specs.declared.expr.LetItem.{LetItem}
use Rattle.mz_tree.specs.declared.expr.Form.{Form, the_lemmas as form_lemmas}
use Rattle.mz_tree.specs.declared.expr.Form.TheVariants as forms
use Rattle.mz_tree.specs.Tree as pure
use Rattle.mz_tree.specs.Tree.{Name, Shape}
use Rattle.mz_tree.specs.Views.{tree, shape, let_of, part, generator, link, branch, tree_row}
use Rattle.mz_tree.proofs.Looks.{tree_is, shape_is}
use Rattle.mz_scope_names.specs.declared.name_use.NameUse.{NameUse}
use Rattle.mz_scope_names.specs.Uses.{with_gens, with_lets, mention, applied, is_empty, in_tree, in_trees, in_links, in_shape, in_parts, in_gens, in_lets, in_branches}
use Rattle.mz_scope_names.proofs.UsesLists.{rows_flat}

form_is : (h : List Name) (e : Expr) (f : Form) (s : Shape) → e.form ≡ f → shape f ≡ s → in_tree h (tree e) ≡ in_shape h s
unfolding in_tree
form_is h e f s i is = ap (in_tree h) (tree_is e) ∙ ap (λ z. in_shape h (shape z)) i ∙ ap (λ z. in_shape h z) is

-- two parts under the same hidden names
pub after_both : (old first all a b whole : List NameUse) → first ≡ old ++ a → all ≡ first ++ b → whole ≡ a ++ b → all ≡ old ++ whole
after_both old first all a b whole p q r = q ∙ ap (λ z. z ++ b) p ∙ append_assoc old a b ∙ ap (λ z. old ++ z) (sym r)

-- a part, and one under the names that it hides
pub after_scope : (old first all a whole : List NameUse) (g with_it : List Name) (f : List Name → List NameUse) → first ≡ old ++ a → all ≡ first ++ f g → g ≡ with_it → whole ≡ a ++ f with_it → all ≡ old ++ whole
after_scope old first all a whole g with_it f p q i r = after_both old first all a (f with_it) whole p (q ∙ ap (λ z. first ++ f z) i) r

-- the same, where the last part is read by the call that answers

pub both_on_ok : {T E : Type 0} (r : Result T E) (old first all a b whole : List NameUse) → first ≡ old ++ a → OnOk r (all ≡ first ++ b) → whole ≡ a ++ b → OnOk r (all ≡ old ++ whole)
both_on_ok r old first all a b whole p q e = on_ok_weaker r (λ h. after_both old first all a b whole p h e) q

pub scope_on_ok : {T E : Type 0} (r : Result T E) (old first all a whole : List NameUse) (g with_it : List Name) (f : List Name → List NameUse) → first ≡ old ++ a → OnOk r (all ≡ first ++ f g) → g ≡ with_it → whole ≡ a ++ f with_it → OnOk r (all ≡ old ++ whole)
scope_on_ok r old first all a whole g with_it f p q i e = on_ok_weaker r (λ h. after_scope old first all a whole g with_it f p h i e) q

pub kept_on_ok : {T E : Type 0} (r : Result T E) (old first all : List Name) → first ≡ old → OnOk r (all ≡ first) → OnOk r (all ≡ old)
kept_on_ok r old first all p q = on_ok_weaker r (λ h. h ∙ p) q

array_comp_is : (x : Box Expr Global) (gs : Vec Gen Global) → shape (forms.ArrayComp x gs) ≡ pure.array_comp (tree x.value) (pure.gens (map generator gs.items))
array_comp_is x gs = shape_is (forms.ArrayComp x gs) ∙ simp form_lemmas refl

set_comp_is : (x : Box Expr Global) (gs : Vec Gen Global) → shape (forms.SetComp x gs) ≡ pure.set_comp (tree x.value) (pure.gens (map generator gs.items))
set_comp_is x gs = shape_is (forms.SetComp x gs) ∙ simp form_lemmas refl

let_is : (ls : Vec LetItem Global) (x : Box Expr Global) → shape (forms.Let ls x) ≡ pure.let_in (pure.lets (map let_of ls.items)) (tree x.value)
let_is ls x = shape_is (forms.Let ls x) ∙ simp form_lemmas refl

rows_is : (rs : Vec (Vec Expr Global) Global) → shape (forms.Rows rs) ≡ pure.rows (pure.rows_of (map tree_row rs.items))
rows_is rs = shape_is (forms.Rows rs) ∙ simp form_lemmas refl

pub in_array_comp : (h : List Name) (e x : Expr) (b : Box Expr Global) (gs : Vec Gen Global) (hs : List Gen) → e.form ≡ forms.ArrayComp b gs → x ≡ b.value → hs ≡ gs.items → in_tree h (tree e) ≡ in_gens h (pure.gens (map generator hs)) ++ in_tree (with_gens h (pure.gens (map generator hs))) (tree x)
unfolding in_tree
in_array_comp h e x b gs hs i p q = form_is h e (forms.ArrayComp b gs) (pure.array_comp (tree b.value) (pure.gens (map generator gs.items))) i (array_comp_is b gs)
    ∙ ap (λ z. in_gens h (pure.gens (map generator gs.items)) ++ in_tree (with_gens h (pure.gens (map generator gs.items))) (tree z)) (sym p)
    ∙ ap (λ z. in_gens h (pure.gens (map generator z)) ++ in_tree (with_gens h (pure.gens (map generator z))) (tree x)) (sym q)

pub in_set_comp : (h : List Name) (e x : Expr) (b : Box Expr Global) (gs : Vec Gen Global) (hs : List Gen) → e.form ≡ forms.SetComp b gs → x ≡ b.value → hs ≡ gs.items → in_tree h (tree e) ≡ in_gens h (pure.gens (map generator hs)) ++ in_tree (with_gens h (pure.gens (map generator hs))) (tree x)
unfolding in_tree
in_set_comp h e x b gs hs i p q = form_is h e (forms.SetComp b gs) (pure.set_comp (tree b.value) (pure.gens (map generator gs.items))) i (set_comp_is b gs)
    ∙ ap (λ z. in_gens h (pure.gens (map generator gs.items)) ++ in_tree (with_gens h (pure.gens (map generator gs.items))) (tree z)) (sym p)
    ∙ ap (λ z. in_gens h (pure.gens (map generator z)) ++ in_tree (with_gens h (pure.gens (map generator z))) (tree x)) (sym q)

pub in_let_form : (h : List Name) (e x : Expr) (b : Box Expr Global) (ls : Vec LetItem Global) (ms : List LetItem) → e.form ≡ forms.Let ls b → x ≡ b.value → ms ≡ ls.items → in_tree h (tree e) ≡ in_lets h (pure.lets (map let_of ms)) ++ in_tree (with_lets h (pure.lets (map let_of ms))) (tree x)
unfolding in_tree
in_let_form h e x b ls ms i p q = form_is h e (forms.Let ls b) (pure.let_in (pure.lets (map let_of ls.items)) (tree b.value)) i (let_is ls b)
    ∙ ap (λ z. in_lets h (pure.lets (map let_of ls.items)) ++ in_tree (with_lets h (pure.lets (map let_of ls.items))) (tree z)) (sym p)
    ∙ ap (λ z. in_lets h (pure.lets (map let_of z)) ++ in_tree (with_lets h (pure.lets (map let_of z))) (tree x)) (sym q)

pub in_rows_form : (h : List Name) (e : Expr) (rs : Vec (Vec Expr Global) Global) (ss : List (Vec Expr Global)) → e.form ≡ forms.Rows rs → ss ≡ rs.items → in_tree h (tree e) ≡ flat_map (λ x. in_trees h (pure.trees (map tree x.items))) ss
unfolding in_tree
in_rows_form h e rs ss i q = form_is h e (forms.Rows rs) (pure.rows (pure.rows_of (map tree_row rs.items))) i (rows_is rs) ∙ rows_flat h tree_row rs.items ∙ ap (λ z. flat_map (λ x. in_trees h (pure.trees (map tree x.items))) z) (sym q)

gen_call_is : (n : Name) (x : Box Expr Global) (gs : Vec Gen Global) → shape (forms.GenCall n gs x) ≡ pure.gen_call n (pure.gens (map generator gs.items)) (tree x.value)
gen_call_is n x gs = shape_is (forms.GenCall n gs x) ∙ simp form_lemmas refl

pub in_gen_call : (h : List Name) (e x : Expr) (n : Name) (b : Box Expr Global) (gs : Vec Gen Global) (hs : List Gen) → e.form ≡ forms.GenCall n gs b → x ≡ b.value → hs ≡ gs.items → in_tree h (tree e) ≡ (applied h n false ++ in_gens h (pure.gens (map generator hs))) ++ in_tree (with_gens h (pure.gens (map generator hs))) (tree x)
unfolding in_tree
in_gen_call h e x n b gs hs i p q = form_is h e (forms.GenCall n gs b) (pure.gen_call n (pure.gens (map generator gs.items)) (tree b.value)) i (gen_call_is n b gs)
    ∙ ap (λ z. (applied h n false ++ in_gens h (pure.gens (map generator gs.items))) ++ in_tree (with_gens h (pure.gens (map generator gs.items))) (tree z)) (sym p)
    ∙ ap (λ z. (applied h n false ++ in_gens h (pure.gens (map generator z))) ++ in_tree (with_gens h (pure.gens (map generator z))) (tree x)) (sym q)

chain_is : (x : Box Expr Global) (ls : Vec (PlacedOp × Expr) Global) → shape (forms.Chain x ls) ≡ pure.chain (tree x.value) (pure.links (map link ls.items))
chain_is x ls = shape_is (forms.Chain x ls) ∙ simp form_lemmas refl

call_is : (n : Name) (es : Vec Expr Global) → shape (forms.Call n es) ≡ pure.call n (pure.trees (map tree es.items))
call_is n es = shape_is (forms.Call n es) ∙ simp form_lemmas refl

access_is : (x : Box Expr Global) (es : Vec Expr Global) → shape (forms.Access x es) ≡ pure.access (tree x.value) (pure.trees (map tree es.items))
access_is x es = shape_is (forms.Access x es) ∙ simp form_lemmas refl

if_is : (bs : Vec (Expr × Expr) Global) (x : Box Expr Global) → shape (forms.If bs (Some x)) ≡ pure.choice (pure.branches (map branch bs.items)) (pure.just (tree x.value))
if_is bs x = shape_is (forms.If bs (Some x)) ∙ simp form_lemmas refl

pub in_chain : (h : List Name) (e x : Expr) (b : Box Expr Global) (ls : Vec (PlacedOp × Expr) Global) (ms : List (PlacedOp × Expr)) → e.form ≡ forms.Chain b ls → x ≡ b.value → ms ≡ ls.items → in_tree h (tree e) ≡ in_tree h (tree x) ++ in_links h (pure.links (map link ms))
unfolding in_tree
in_chain h e x b ls ms i p q = form_is h e (forms.Chain b ls) (pure.chain (tree b.value) (pure.links (map link ls.items))) i (chain_is b ls) ∙ ap (λ z. in_tree h (tree z) ++ in_links h (pure.links (map link ls.items))) (sym p) ∙ ap (λ z. in_tree h (tree x) ++ in_links h (pure.links (map link z))) (sym q)

pub empty_same : (es : List Expr) → is_empty (pure.trees (map tree es)) ≡ nat_eq (length es) 0
empty_same [] = refl
empty_same (e ∷ es) = sym (ne_eqb (suc (length es)) 0 (λ i. absurd (omega (arith, i))))

pub in_call : (h : List Name) (e : Expr) (n : Name) (es : Vec Expr Global) (fs : List Expr) (empty : Bool) → e.form ≡ forms.Call n es → fs ≡ es.items → empty ≡ is_empty (pure.trees (map tree fs)) → in_tree h (tree e) ≡ applied h n empty ++ in_trees h (pure.trees (map tree fs))
unfolding in_tree
in_call h e n es fs empty i q m = form_is h e (forms.Call n es) (pure.call n (pure.trees (map tree es.items))) i (call_is n es) ∙ ap (λ z. applied h n (is_empty (pure.trees (map tree z))) ++ in_trees h (pure.trees (map tree z))) (sym q) ∙ ap (λ z. applied h n z ++ in_trees h (pure.trees (map tree fs))) (sym m)

pub in_access : (h : List Name) (e x : Expr) (b : Box Expr Global) (es : Vec Expr Global) (fs : List Expr) → e.form ≡ forms.Access b es → x ≡ b.value → fs ≡ es.items → in_tree h (tree e) ≡ in_tree h (tree x) ++ in_trees h (pure.trees (map tree fs))
unfolding in_tree
in_access h e x b es fs i p q = form_is h e (forms.Access b es) (pure.access (tree b.value) (pure.trees (map tree es.items))) i (access_is b es) ∙ ap (λ z. in_tree h (tree z) ++ in_trees h (pure.trees (map tree es.items))) (sym p) ∙ ap (λ z. in_tree h (tree x) ++ in_trees h (pure.trees (map tree z))) (sym q)

pub in_if : (h : List Name) (e x : Expr) (b : Box Expr Global) (bs : Vec (Expr × Expr) Global) (cs : List (Expr × Expr)) (other : Option (Box Expr Global)) → e.form ≡ forms.If bs other → other ≡ Some b → x ≡ b.value → cs ≡ bs.items → in_tree h (tree e) ≡ in_branches h (pure.branches (map branch cs)) ++ in_tree h (tree x)
unfolding in_tree
in_if h e x b bs cs other i o p q = form_is h e (forms.If bs (Some b)) (pure.choice (pure.branches (map branch bs.items)) (pure.just (tree b.value))) (i ∙ ap (λ z. forms.If bs z) o) (if_is bs b) ∙ ap (λ z. in_branches h (pure.branches (map branch bs.items)) ++ in_tree h (tree z)) (sym p) ∙ ap (λ z. in_branches h (pure.branches (map branch z)) ++ in_tree h (tree x)) (sym q)

-- where nothing is used, or one part

pub after_none : (old whole : List NameUse) → whole ≡ [] → old ≡ old ++ whole
after_none old whole r = sym (ap (λ z. old ++ z) r ∙ append-nil old)

pub after_one : (old all a whole : List NameUse) → all ≡ old ++ a → whole ≡ a → all ≡ old ++ whole
after_one old all a whole p r = p ∙ ap (λ z. old ++ z) (sym r)

pub one_on_ok : {T E : Type 0} (r : Result T E) (old all a whole : List NameUse) → OnOk r (all ≡ old ++ a) → whole ≡ a → OnOk r (all ≡ old ++ whole)
one_on_ok r old all a whole p e = on_ok_weaker r (λ h. after_one old all a whole h e) p

pub in_int : (h : List Name) (e : Expr) (n : ℤ) → e.form ≡ forms.Int n → in_tree h (tree e) ≡ []
unfolding in_tree
in_int h e n i = form_is h e (forms.Int n) (pure.int n) i (shape_is (forms.Int n) ∙ simp form_lemmas refl)

pub in_bool : (h : List Name) (e : Expr) (b : Bool) → e.form ≡ forms.Bool b → in_tree h (tree e) ≡ []
unfolding in_tree
in_bool h e b i = form_is h e (forms.Bool b) (pure.bool b) i (shape_is (forms.Bool b) ∙ simp form_lemmas refl)

pub in_absent : (h : List Name) (e : Expr) → e.form ≡ forms.Absent → in_tree h (tree e) ≡ []
unfolding in_tree
in_absent h e i = form_is h e forms.Absent pure.absent i (shape_is forms.Absent ∙ simp form_lemmas refl)

pub in_text : (h : List Name) (e : Expr) (n : Name) → e.form ≡ forms.Text n → in_tree h (tree e) ≡ []
unfolding in_tree
in_text h e n i = form_is h e (forms.Text n) (pure.text n) i (shape_is (forms.Text n) ∙ simp form_lemmas refl)

pub in_whole : (h : List Name) (e : Expr) → e.form ≡ forms.Whole → in_tree h (tree e) ≡ []
unfolding in_tree
in_whole h e i = form_is h e forms.Whole pure.whole i (shape_is forms.Whole ∙ simp form_lemmas refl)

pub in_ident : (h : List Name) (e : Expr) (n : Name) → e.form ≡ forms.Ident n → in_tree h (tree e) ≡ mention h n
unfolding in_tree
in_ident h e n i = form_is h e (forms.Ident n) (pure.ident n) i (shape_is (forms.Ident n) ∙ simp form_lemmas refl)

pub in_interp : (h : List Name) (e : Expr) (ps : Vec TextPart Global) (qs : List TextPart) → e.form ≡ forms.Interp ps → qs ≡ ps.items → in_tree h (tree e) ≡ in_parts h (pure.parts (map part qs))
unfolding in_tree
in_interp h e ps qs i q = form_is h e (forms.Interp ps) (pure.interp (pure.parts (map part ps.items))) i (shape_is (forms.Interp ps) ∙ simp form_lemmas refl) ∙ ap (λ z. in_parts h (pure.parts (map part z))) (sym q)

pub in_unary : (h : List Name) (e x : Expr) (op : UnOp) (b : Box Expr Global) → e.form ≡ forms.Unary op b → x ≡ b.value → in_tree h (tree e) ≡ in_tree h (tree x)
unfolding in_tree
in_unary h e x op b i p = form_is h e (forms.Unary op b) (pure.unary op (tree b.value)) i (shape_is (forms.Unary op b) ∙ simp form_lemmas refl) ∙ ap (λ z. in_tree h (tree z)) (sym p)

pub in_array : (h : List Name) (e : Expr) (xs : Vec Expr Global) (ys : List Expr) → e.form ≡ forms.Array xs → ys ≡ xs.items → in_tree h (tree e) ≡ in_trees h (pure.trees (map tree ys))
unfolding in_tree
in_array h e xs ys i q = form_is h e (forms.Array xs) (pure.array (pure.trees (map tree xs.items))) i (shape_is (forms.Array xs) ∙ simp form_lemmas refl) ∙ ap (λ z. in_trees h (pure.trees (map tree z))) (sym q)

pub in_set : (h : List Name) (e : Expr) (xs : Vec Expr Global) (ys : List Expr) → e.form ≡ forms.Set xs → ys ≡ xs.items → in_tree h (tree e) ≡ in_trees h (pure.trees (map tree ys))
unfolding in_tree
in_set h e xs ys i q = form_is h e (forms.Set xs) (pure.set (pure.trees (map tree xs.items))) i (shape_is (forms.Set xs) ∙ simp form_lemmas refl) ∙ ap (λ z. in_trees h (pure.trees (map tree z))) (sym q)

pub in_if_alone : (h : List Name) (e : Expr) (bs : Vec (Expr × Expr) Global) (cs : List (Expr × Expr)) (other : Option (Box Expr Global)) → e.form ≡ forms.If bs other → other ≡ None → cs ≡ bs.items → in_tree h (tree e) ≡ in_branches h (pure.branches (map branch cs))
unfolding in_tree
in_if_alone h e bs cs other i o q = form_is h e (forms.If bs None) (pure.choice (pure.branches (map branch bs.items)) pure.nothing) (i ∙ ap (λ z. forms.If bs z) o) (shape_is (forms.If bs None) ∙ simp form_lemmas refl) ∙ sym (after_none (in_branches h (pure.branches (map branch bs.items))) [] refl) ∙ ap (λ z. in_branches h (pure.branches (map branch z))) (sym q)
