-- The occurrences in an expression, by its form.
use Rattle.std.proofs.Common.{◌≡◌, ℤ, Bool, List, [], ◌∷◌, ◌++◌, refl, ap, sym, ◌∙◌, map, append_assoc, append-nil, Vec, Box, Option, Some, None, Result, OnOk}
use Rattle.std.proofs.lemmas.Result.{on_ok_weaker}
use Rattle.std.specs.Global.{Global}
use Rattle.std.specs.List.{flat_map}
use Rattle.std.specs.Option.{option_map}
use Rattle.mz_base.specs.declared.fault.Span.{Span}
use Rattle.mz_tree.specs.declared.expr.Expr.{Expr}
use Rattle.mz_tree.specs.declared.expr.UnOp.{UnOp}
use Rattle.mz_tree.specs.declared.expr.PlacedOp.{PlacedOp}
use Rattle.mz_tree.specs.declared.expr.Gen.{Gen}
use Rattle.mz_tree.specs.declared.expr.LetItem.{LetItem}
use Rattle.mz_tree.specs.declared.expr.TextPart.{TextPart}
use Rattle.mz_tree.specs.declared.expr.TextPart.TheVariants as pieces
use Rattle.mz_tree.specs.declared.expr.LetItem.TheVariants as items
use Rattle.mz_tree.specs.declared.expr.TypeBase.{TypeBase}
use Rattle.mz_tree.specs.declared.expr.TypeBase.TheVariants as base_types
use Rattle.mz_tree.specs.declared.expr.TypeText.{TypeText}
use Rattle.mz_tree.specs.declared.expr.Decl.{Decl}
use Rattle.mz_tree.specs.declared.expr.Form.TheViews.{out-Gen, out-TypeText}
use Rattle.mz_tree.specs.declared.expr.Form.{Form, the_lemmas as form_lemmas}
use Rattle.mz_tree.specs.declared.expr.Form.TheVariants as forms
use Rattle.mz_tree.specs.Tree as pure
use Rattle.mz_tree.specs.Tree.{Name, Shape, Part, Let, Based}
use Rattle.mz_tree.specs.Views.{tree, shape, let_of, part, generator, based, declaration, written, branch, link, tree_row}
use Rattle.mz_tree.proofs.Looks.{tree_is, shape_is, part_is, let_is, base_is, generator_is, written_is}
use Rattle.mz_scope_names.specs.declared.occurrence.Occurrence.{Occurrence}
use Rattle.mz_scope_names.specs.declared.occurrence.Role.TheVariants.{Used}
use Rattle.mz_scope_names.specs.Roles.{occurs}
use Rattle.mz_scope_names.specs.Occurrences.{bound, in_tree, in_trees, in_shape, in_links, in_part, in_parts, in_generator, in_gens, in_let, in_lets, in_local, in_maybe, in_branches, in_written, in_dims, in_based, in_bases}
use Rattle.mz_scope_names.proofs.Lists.{rows_flat}

form_is : (e : Expr) (f : Form) (s : Shape) → e.form ≡ f → shape f ≡ s → in_tree (tree e) ≡ in_shape e.span s
unfolding in_tree
form_is e f s h is = ap in_tree (tree_is e) ∙ ap (λ z. in_shape e.span (shape z)) h ∙ ap (λ z. in_shape e.span z) is

-- What was read, where nothing is read, or one part, or one after the other

pub after_none : (old whole : List Occurrence) → whole ≡ [] → old ≡ old ++ whole
after_none old whole r = sym (ap (λ z. old ++ z) r ∙ append-nil old)

pub after_one : (old all a whole : List Occurrence) → all ≡ old ++ a → whole ≡ a → all ≡ old ++ whole
after_one old all a whole p r = p ∙ ap (λ z. old ++ z) (sym r)

pub after_both : (old first all a b whole : List Occurrence) → first ≡ old ++ a → all ≡ first ++ b → whole ≡ a ++ b → all ≡ old ++ whole
after_both old first all a b whole p q r = q ∙ ap (λ z. z ++ b) p ∙ append_assoc old a b ∙ ap (λ z. old ++ z) (sym r)

pub after_three : (old first second all a b c whole : List Occurrence) → first ≡ old ++ a → second ≡ first ++ b → all ≡ second ++ c → whole ≡ a ++ (b ++ c) → all ≡ old ++ whole
after_three old first second all a b c whole p q s r =
    s ∙ ap (λ z. z ++ c) (q ∙ ap (λ z. z ++ b) p) ∙ append_assoc (old ++ a) b c ∙ append_assoc old a (b ++ c) ∙ ap (λ z. old ++ z) (sym r)

-- two parts, one after the other, in a list that is read on
pub read_both : (old first all a b : List Occurrence) → first ≡ old ++ a → all ≡ first ++ b → all ≡ old ++ (a ++ b)
read_both old first all a b p q = q ∙ ap (λ z. z ++ b) p ∙ append_assoc old a b

-- The same, where the last part is read by the call that answers

pub one_on_ok : {T E : Type 0} (r : Result T E) (old all a whole : List Occurrence) → OnOk r (all ≡ old ++ a) → whole ≡ a → OnOk r (all ≡ old ++ whole)
one_on_ok r old all a whole p e = on_ok_weaker r (λ h. after_one old all a whole h e) p

pub both_on_ok : {T E : Type 0} (r : Result T E) (old first all a b whole : List Occurrence) → first ≡ old ++ a → OnOk r (all ≡ first ++ b) → whole ≡ a ++ b → OnOk r (all ≡ old ++ whole)
both_on_ok r old first all a b whole p q e = on_ok_weaker r (λ h. after_both old first all a b whole p h e) q

pub three_on_ok : {T E : Type 0} (r : Result T E) (old first second all a b c whole : List Occurrence) → first ≡ old ++ a → second ≡ first ++ b → OnOk r (all ≡ second ++ c) → whole ≡ a ++ (b ++ c) → OnOk r (all ≡ old ++ whole)
three_on_ok r old first second all a b c whole p q s e = on_ok_weaker r (λ h. after_three old first second all a b c whole p q h e) s

-- Forms in which no name is used

pub in_int_form : (e : Expr) (n : ℤ) → e.form ≡ forms.Int n → in_tree (tree e) ≡ []
unfolding in_tree
in_int_form e n h = form_is e (forms.Int n) (pure.int n) h (shape_is (forms.Int n) ∙ simp form_lemmas refl)

pub in_bool_form : (e : Expr) (b : Bool) → e.form ≡ forms.Bool b → in_tree (tree e) ≡ []
unfolding in_tree
in_bool_form e b h = form_is e (forms.Bool b) (pure.bool b) h (shape_is (forms.Bool b) ∙ simp form_lemmas refl)

pub in_absent_form : (e : Expr) → e.form ≡ forms.Absent → in_tree (tree e) ≡ []
unfolding in_tree
in_absent_form e h = form_is e forms.Absent pure.absent h (shape_is forms.Absent ∙ simp form_lemmas refl)

pub in_text_form : (e : Expr) (n : Name) → e.form ≡ forms.Text n → in_tree (tree e) ≡ []
unfolding in_tree
in_text_form e n h = form_is e (forms.Text n) (pure.text n) h (shape_is (forms.Text n) ∙ simp form_lemmas refl)

pub in_whole_form : (e : Expr) → e.form ≡ forms.Whole → in_tree (tree e) ≡ []
unfolding in_tree
in_whole_form e h = form_is e forms.Whole pure.whole h (shape_is forms.Whole ∙ simp form_lemmas refl)

-- Forms with names and parts

pub in_ident_form : (e : Expr) (n : Name) → e.form ≡ forms.Ident n → in_tree (tree e) ≡ occurs Used n e.span ∷ []
unfolding in_tree
in_ident_form e n h = form_is e (forms.Ident n) (pure.ident n) h (shape_is (forms.Ident n) ∙ simp form_lemmas refl)

pub in_interp_form : (e : Expr) (ps : Vec TextPart Global) (qs : List TextPart) → e.form ≡ forms.Interp ps → qs ≡ ps.items → in_tree (tree e) ≡ in_parts (pure.parts (map part qs))
unfolding in_tree
in_interp_form e ps qs h q = form_is e (forms.Interp ps) (pure.interp (pure.parts (map part ps.items))) h (shape_is (forms.Interp ps) ∙ simp form_lemmas refl) ∙ ap (λ z. in_parts (pure.parts (map part z))) (sym q)

pub in_unary_form : (e x : Expr) (op : UnOp) (b : Box Expr Global) → e.form ≡ forms.Unary op b → x ≡ b.value → in_tree (tree e) ≡ in_tree (tree x)
unfolding in_tree
in_unary_form e x op b h p = form_is e (forms.Unary op b) (pure.unary op (tree b.value)) h (shape_is (forms.Unary op b) ∙ simp form_lemmas refl) ∙ ap (λ z. in_tree (tree z)) (sym p)

pub in_chain_form : (e x : Expr) (b : Box Expr Global) (ls : Vec (PlacedOp × Expr) Global) (ms : List (PlacedOp × Expr)) → e.form ≡ forms.Chain b ls → x ≡ b.value → ms ≡ ls.items → in_tree (tree e) ≡ in_tree (tree x) ++ in_links (pure.links (map link ms))
unfolding in_tree
in_chain_form e x b ls ms h p q = form_is e (forms.Chain b ls) (pure.chain (tree b.value) (pure.links (map link ls.items))) h (shape_is (forms.Chain b ls) ∙ simp form_lemmas refl) ∙ ap (λ z. in_tree (tree z) ++ in_links (pure.links (map link ls.items))) (sym p) ∙ ap (λ z. in_tree (tree x) ++ in_links (pure.links (map link z))) (sym q)

pub in_call_form : (e : Expr) (n : Name) (xs : Vec Expr Global) (ys : List Expr) → e.form ≡ forms.Call n xs → ys ≡ xs.items → in_tree (tree e) ≡ (occurs Used n e.span ∷ []) ++ in_trees (pure.trees (map tree ys))
unfolding in_tree
in_call_form e n xs ys h q = form_is e (forms.Call n xs) (pure.call n (pure.trees (map tree xs.items))) h (shape_is (forms.Call n xs) ∙ simp form_lemmas refl) ∙ ap (λ z. occurs Used n e.span ∷ in_trees (pure.trees (map tree z))) (sym q)

pub in_gen_call_form : (e x : Expr) (n : Name) (gs : Vec Gen Global) (b : Box Expr Global) (hs : List Gen) → e.form ≡ forms.GenCall n gs b → x ≡ b.value → hs ≡ gs.items → in_tree (tree e) ≡ (occurs Used n e.span ∷ []) ++ (in_gens (pure.gens (map generator hs)) ++ in_tree (tree x))
unfolding in_tree
in_gen_call_form e x n gs b hs h p q = form_is e (forms.GenCall n gs b) (pure.gen_call n (pure.gens (map generator gs.items)) (tree b.value)) h (shape_is (forms.GenCall n gs b) ∙ simp form_lemmas refl) ∙ ap (λ z. occurs Used n e.span ∷ (in_gens (pure.gens (map generator gs.items)) ++ in_tree (tree z))) (sym p) ∙ ap (λ z. occurs Used n e.span ∷ (in_gens (pure.gens (map generator z)) ++ in_tree (tree x))) (sym q)

pub in_access_form : (e x : Expr) (b : Box Expr Global) (xs : Vec Expr Global) (ys : List Expr) → e.form ≡ forms.Access b xs → x ≡ b.value → ys ≡ xs.items → in_tree (tree e) ≡ in_tree (tree x) ++ in_trees (pure.trees (map tree ys))
unfolding in_tree
in_access_form e x b xs ys h p q = form_is e (forms.Access b xs) (pure.access (tree b.value) (pure.trees (map tree xs.items))) h (shape_is (forms.Access b xs) ∙ simp form_lemmas refl) ∙ ap (λ z. in_tree (tree z) ++ in_trees (pure.trees (map tree xs.items))) (sym p) ∙ ap (λ z. in_tree (tree x) ++ in_trees (pure.trees (map tree z))) (sym q)

pub in_array_form : (e : Expr) (xs : Vec Expr Global) (ys : List Expr) → e.form ≡ forms.Array xs → ys ≡ xs.items → in_tree (tree e) ≡ in_trees (pure.trees (map tree ys))
unfolding in_tree
in_array_form e xs ys h q = form_is e (forms.Array xs) (pure.array (pure.trees (map tree xs.items))) h (shape_is (forms.Array xs) ∙ simp form_lemmas refl) ∙ ap (λ z. in_trees (pure.trees (map tree z))) (sym q)

pub in_rows_form : (e : Expr) (rs : Vec (Vec Expr Global) Global) (ss : List (Vec Expr Global)) → e.form ≡ forms.Rows rs → ss ≡ rs.items → in_tree (tree e) ≡ flat_map (λ x. in_trees (pure.trees (map tree x.items))) ss
unfolding in_tree
in_rows_form e rs ss h q = form_is e (forms.Rows rs) (pure.rows (pure.rows_of (map tree_row rs.items))) h (shape_is (forms.Rows rs) ∙ simp form_lemmas refl) ∙ rows_flat tree_row rs.items ∙ ap (λ z. flat_map (λ x. in_trees (pure.trees (map tree x.items))) z) (sym q)

pub in_set_form : (e : Expr) (xs : Vec Expr Global) (ys : List Expr) → e.form ≡ forms.Set xs → ys ≡ xs.items → in_tree (tree e) ≡ in_trees (pure.trees (map tree ys))
unfolding in_tree
in_set_form e xs ys h q = form_is e (forms.Set xs) (pure.set (pure.trees (map tree xs.items))) h (shape_is (forms.Set xs) ∙ simp form_lemmas refl) ∙ ap (λ z. in_trees (pure.trees (map tree z))) (sym q)

pub in_array_comp : (e x : Expr) (b : Box Expr Global) (gs : Vec Gen Global) (hs : List Gen) → e.form ≡ forms.ArrayComp b gs → x ≡ b.value → hs ≡ gs.items → in_tree (tree e) ≡ in_tree (tree x) ++ in_gens (pure.gens (map generator hs))
unfolding in_tree
in_array_comp e x b gs hs h p q = form_is e (forms.ArrayComp b gs) (pure.array_comp (tree b.value) (pure.gens (map generator gs.items))) h (shape_is (forms.ArrayComp b gs) ∙ simp form_lemmas refl) ∙ ap (λ z. in_tree (tree z) ++ in_gens (pure.gens (map generator gs.items))) (sym p) ∙ ap (λ z. in_tree (tree x) ++ in_gens (pure.gens (map generator z))) (sym q)

pub in_set_comp : (e x : Expr) (b : Box Expr Global) (gs : Vec Gen Global) (hs : List Gen) → e.form ≡ forms.SetComp b gs → x ≡ b.value → hs ≡ gs.items → in_tree (tree e) ≡ in_tree (tree x) ++ in_gens (pure.gens (map generator hs))
unfolding in_tree
in_set_comp e x b gs hs h p q = form_is e (forms.SetComp b gs) (pure.set_comp (tree b.value) (pure.gens (map generator gs.items))) h (shape_is (forms.SetComp b gs) ∙ simp form_lemmas refl) ∙ ap (λ z. in_tree (tree z) ++ in_gens (pure.gens (map generator gs.items))) (sym p) ∙ ap (λ z. in_tree (tree x) ++ in_gens (pure.gens (map generator z))) (sym q)

pub in_let_form : (e x : Expr) (b : Box Expr Global) (ls : Vec LetItem Global) (ms : List LetItem) → e.form ≡ forms.Let ls b → x ≡ b.value → ms ≡ ls.items → in_tree (tree e) ≡ in_lets (pure.lets (map let_of ms)) ++ in_tree (tree x)
unfolding in_tree
in_let_form e x b ls ms h p q = form_is e (forms.Let ls b) (pure.let_in (pure.lets (map let_of ls.items)) (tree b.value)) h (shape_is (forms.Let ls b) ∙ simp form_lemmas refl) ∙ ap (λ z. in_lets (pure.lets (map let_of ls.items)) ++ in_tree (tree z)) (sym p) ∙ ap (λ z. in_lets (pure.lets (map let_of z)) ++ in_tree (tree x)) (sym q)

pub in_if_form : (e x : Expr) (b : Box Expr Global) (bs : Vec (Expr × Expr) Global) (cs : List (Expr × Expr)) (other : Option (Box Expr Global)) → e.form ≡ forms.If bs other → other ≡ Some b → x ≡ b.value → cs ≡ bs.items → in_tree (tree e) ≡ in_branches (pure.branches (map branch cs)) ++ in_tree (tree x)
unfolding in_tree
in_if_form e x b bs cs other h o p q = form_is e (forms.If bs (Some b)) (pure.choice (pure.branches (map branch bs.items)) (pure.just (tree b.value))) (h ∙ ap (λ z. forms.If bs z) o) (shape_is (forms.If bs (Some b)) ∙ simp form_lemmas refl) ∙ ap (λ z. in_branches (pure.branches (map branch bs.items)) ++ in_tree (tree z)) (sym p) ∙ ap (λ z. in_branches (pure.branches (map branch z)) ++ in_tree (tree x)) (sym q)

pub in_if_alone : (e : Expr) (bs : Vec (Expr × Expr) Global) (cs : List (Expr × Expr)) (other : Option (Box Expr Global)) → e.form ≡ forms.If bs other → other ≡ None → cs ≡ bs.items → in_tree (tree e) ≡ in_branches (pure.branches (map branch cs))
unfolding in_tree
in_if_alone e bs cs other h o q = form_is e (forms.If bs None) (pure.choice (pure.branches (map branch bs.items)) pure.nothing) (h ∙ ap (λ z. forms.If bs z) o) (shape_is (forms.If bs None) ∙ simp form_lemmas refl) ∙ sym (after_none (in_branches (pure.branches (map branch bs.items))) [] refl) ∙ ap (λ z. in_branches (pure.branches (map branch z))) (sym q)

-- Pieces of a text, items of a `let`, generators and types

part_as : (p q : TextPart) (t : Part) → p ≡ q → part q ≡ t → in_part (part p) ≡ in_part t
part_as p q t h e = ap (λ z. in_part (part z)) h ∙ ap in_part e

pub in_plain_piece : (p : TextPart) (n : Name) → p ≡ pieces.Plain n → in_part (part p) ≡ []
unfolding in_tree
in_plain_piece p n h = part_as p (pieces.Plain n) (pure.plain n) h (part_is (pieces.Plain n) ∙ simp form_lemmas refl)

pub in_shown_piece : (p : TextPart) (e : Expr) → p ≡ pieces.Shown e → in_part (part p) ≡ in_tree (tree e)
unfolding in_tree
in_shown_piece p e h = part_as p (pieces.Shown e) (pure.shown (tree e)) h (part_is (pieces.Shown e) ∙ simp form_lemmas refl)

let_as : (l m : LetItem) (t : Let) → l ≡ m → let_of m ≡ t → in_let (let_of l) ≡ in_let t
let_as l m t h e = ap (λ z. in_let (let_of z)) h ∙ ap in_let e

pub in_decl_item : (l : LetItem) (d : Decl) → l ≡ items.Decl d → in_let (let_of l) ≡ in_local (declaration d)
unfolding in_tree
in_decl_item l d h = let_as l (items.Decl d) (pure.declared (declaration d)) h (let_is (items.Decl d) ∙ simp form_lemmas refl)

pub in_constraint_item : (l : LetItem) (e : Expr) → l ≡ items.Constraint e → in_let (let_of l) ≡ in_tree (tree e)
unfolding in_tree
in_constraint_item l e h = let_as l (items.Constraint e) (pure.constrained (tree e)) h (let_is (items.Constraint e) ∙ simp form_lemmas refl)

base_as : (b c : TypeBase) (t : Based) → b ≡ c → based c ≡ t → in_based (based b) ≡ in_based t
base_as b c t h e = ap (λ z. in_based (based z)) h ∙ ap in_based e

pub in_bool_base : (b : TypeBase) → b ≡ base_types.Bool → in_based (based b) ≡ []
unfolding in_tree
in_bool_base b h = base_as b base_types.Bool pure.base_bool h (base_is base_types.Bool ∙ simp form_lemmas refl)

pub in_int_base : (b : TypeBase) → b ≡ base_types.Int → in_based (based b) ≡ []
unfolding in_tree
in_int_base b h = base_as b base_types.Int pure.base_int h (base_is base_types.Int ∙ simp form_lemmas refl)

pub in_of_base : (b : TypeBase) (x : Box Expr Global) (e : Expr) → b ≡ base_types.Of x → e ≡ x.value → in_based (based b) ≡ in_tree (tree e)
unfolding in_tree
in_of_base b x e h p = base_as b (base_types.Of x) (pure.base_of (tree x.value)) h (base_is (base_types.Of x) ∙ simp form_lemmas refl) ∙ ap (λ z. in_tree (tree z)) (sym p)

generator_as : (g : Gen) (c : Option Expr) → (out-Gen g).cond ≡ c → in_generator (generator g) ≡ map bound (out-Gen g).names.items ++ (in_tree (tree (out-Gen g).set) ++ in_maybe (pure.maybe (option_map tree c)))
unfolding in_tree
generator_as g c h = ap in_generator (generator_is g) ∙ ap (λ z. map bound (out-Gen g).names.items ++ (in_tree (tree (out-Gen g).set) ++ in_maybe (pure.maybe (option_map tree z)))) h

pub in_generator_where : (g : Gen) (e : Expr) (ns : List (Name × Span)) → (out-Gen g).cond ≡ Some e → ns ≡ (out-Gen g).names.items → in_generator (generator g) ≡ map bound ns ++ (in_tree (tree (out-Gen g).set) ++ in_tree (tree e))
unfolding in_tree
in_generator_where g e ns h q = generator_as g (Some e) h ∙ ap (λ z. map bound z ++ (in_tree (tree (out-Gen g).set) ++ in_tree (tree e))) (sym q)

pub in_generator_alone : (g : Gen) (ns : List (Name × Span)) → (out-Gen g).cond ≡ None → ns ≡ (out-Gen g).names.items → in_generator (generator g) ≡ map bound ns ++ in_tree (tree (out-Gen g).set)
unfolding in_tree
in_generator_alone g ns h q = generator_as g None h ∙ ap (λ z. map bound (out-Gen g).names.items ++ z) (sym (after_none (in_tree (tree (out-Gen g).set)) [] refl)) ∙ ap (λ z. map bound z ++ in_tree (tree (out-Gen g).set)) (sym q)

pub in_array_type : (t : TypeText) (bs : Vec TypeBase Global) (cs : List TypeBase) → (out-TypeText t).dims ≡ Some bs → cs ≡ bs.items → in_written (written t) ≡ in_bases (pure.bases (map based cs)) ++ in_based (based (out-TypeText t).base)
unfolding in_tree
in_array_type t bs cs h q =
    ap in_written (written_is t) ∙ ap (λ z. in_dims (pure.dims (option_map (λ v. map based v.items) z)) ++ in_based (based (out-TypeText t).base)) h
    ∙ ap (λ z. in_bases (pure.bases (map based z)) ++ in_based (based (out-TypeText t).base)) (sym q)

pub in_plain_type : (t : TypeText) → (out-TypeText t).dims ≡ None → in_written (written t) ≡ in_based (based (out-TypeText t).base)
unfolding in_tree
in_plain_type t h = ap in_written (written_is t) ∙ ap (λ z. in_dims (pure.dims (option_map (λ v. map based v.items) z)) ++ in_based (based (out-TypeText t).base)) h
