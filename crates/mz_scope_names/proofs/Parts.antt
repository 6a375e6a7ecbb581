-- What pieces of a text, generators, items of a `let` and types use, and which names they hide.
use Rattle.std.proofs.Common.{◌≡◌, List, [], ◌++◌, refl, ap, sym, ◌∙◌, map, append-nil, append_assoc, Vec, Box, Some, None}
use Rattle.std.specs.Global.{Global}
use Rattle.std.specs.Option.{option_map}
use Rattle.mz_base.specs.declared.fault.Span.{Span}
use Rattle.mz_tree.specs.declared.expr.Expr.{Expr}
use Rattle.mz_tree.specs.declared.expr.Decl.{Decl}
use Rattle.mz_tree.specs.declared.expr.Gen.{Gen}
use Rattle.mz_tree.specs.declared.expr.LetItem.{LetItem}
use Rattle.mz_tree.specs.declared.expr.LetItem.TheVariants as items
use Rattle.mz_tree.specs.declared.expr.TextPart.{TextPart}
use Rattle.mz_tree.specs.declared.expr.TextPart.TheVariants as pieces
use Rattle.mz_tree.specs.declared.expr.TypeBase.{TypeBase}
use Rattle.mz_tree.specs.declared.expr.TypeBase.TheVariants as base_types
use Rattle.mz_tree.specs.declared.expr.TypeText.{TypeText}
use Rattle.mz_tree.specs.declared.expr.Form.{the_lemmas as form_lemmas}
use Rattle.mz_tree.specs.declared.expr.Form.TheViews.{out-Decl, out-Gen, out-TypeText}
use Rattle.mz_tree.specs.Tree as pure
use Rattle.mz_tree.specs.Tree.{Name, Part, Based}
use Rattle.mz_tree.specs.Views.{tree, let_of, part, based, declaration, generator, written}
use Rattle.mz_tree.proofs.Looks.{part_is, let_is, base_is, declaration_is, generator_is, written_is}
use Rattle.mz_scope_names.specs.Sets.{with_name}
use Rattle.mz_scope_names.specs.declared.name_use.NameUse.{NameUse}
use Rattle.mz_scope_names.specs.Uses.{with_bound, with_generator, with_declaration, with_let, in_tree, in_maybe, in_part, in_generator, in_let, in_declaration, in_written, in_dims, in_based, in_bases}

-- two parts, one after the other, in a list that is read on
pub read_both : (old first all a b : List NameUse) → first ≡ old ++ a → all ≡ first ++ b → all ≡ old ++ (a ++ b)
read_both old first all a b p q = q ∙ ap (λ z. z ++ b) p ∙ append_assoc old a b

part_as : (h : List Name) (p q : TextPart) (t : Part) → p ≡ q → part q ≡ t → in_part h (part p) ≡ in_part h t
part_as h p q t i e = ap (λ z. in_part h (part z)) i ∙ ap (in_part h) e

pub in_plain_piece : (h : List Name) (p : TextPart) (n : Name) → p ≡ pieces.Plain n → in_part h (part p) ≡ []
unfolding in_tree
in_plain_piece h p n i = part_as h p (pieces.Plain n) (pure.plain n) i (part_is (pieces.Plain n) ∙ simp form_lemmas refl)

pub in_shown_piece : (h : List Name) (p : TextPart) (e : Expr) → p ≡ pieces.Shown e → in_part h (part p) ≡ in_tree h (tree e)
unfolding in_tree
in_shown_piece h p e i = part_as h p (pieces.Shown e) (pure.shown (tree e)) i (part_is (pieces.Shown e) ∙ simp form_lemmas refl)

-- An item of a `let`

decl_is : (d : Decl) → let_of (items.Decl d) ≡ pure.declared (declaration d)
decl_is d = let_is (items.Decl d) ∙ simp form_lemmas refl

constraint_is : (e : Expr) → let_of (items.Constraint e) ≡ pure.constrained (tree e)
constraint_is e = let_is (items.Constraint e) ∙ simp form_lemmas refl

pub in_decl_item : (h : List Name) (l : LetItem) (d : Decl) → l ≡ items.Decl d → in_let h (let_of l) ≡ in_declaration h (declaration d)
unfolding in_tree
in_decl_item h l d i = ap (λ z. in_let h (let_of z)) i ∙ ap (in_let h) (decl_is d)

pub with_decl_item : (h : List Name) (l : LetItem) (d : Decl) → l ≡ items.Decl d → with_let h (let_of l) ≡ with_declaration h (declaration d)
with_decl_item h l d i = ap (λ z. with_let h (let_of z)) i ∙ ap (λ z. with_let h z) (decl_is d)

pub in_constraint_item : (h : List Name) (l : LetItem) (e : Expr) → l ≡ items.Constraint e → in_let h (let_of l) ≡ in_tree h (tree e)
unfolding in_tree
in_constraint_item h l e i = ap (λ z. in_let h (let_of z)) i ∙ ap (in_let h) (constraint_is e)

pub with_constraint_item : (h : List Name) (l : LetItem) (e : Expr) → l ≡ items.Constraint e → with_let h (let_of l) ≡ h
with_constraint_item h l e i = ap (λ z. with_let h (let_of z)) i ∙ ap (λ z. with_let h z) (constraint_is e)

-- A declaration in a `let`

pub in_declaration_value : (h : List Name) (d : Decl) (e : Expr) → (out-Decl d).value ≡ Some e → in_declaration h (declaration d) ≡ in_written h (written (out-Decl d).ty) ++ in_tree h (tree e)
unfolding in_tree
in_declaration_value h d e i = ap (in_declaration h) (declaration_is d) ∙ ap (λ z. in_written h (written (out-Decl d).ty) ++ in_maybe h (pure.maybe (option_map tree z))) i

pub in_declaration_alone : (h : List Name) (d : Decl) → (out-Decl d).value ≡ None → in_declaration h (declaration d) ≡ in_written h (written (out-Decl d).ty)
unfolding in_tree
in_declaration_alone h d i =
    let t = in_written h (written (out-Decl d).ty) in
    ap (in_declaration h) (declaration_is d) ∙ ap (λ z. t ++ in_maybe h (pure.maybe (option_map tree z))) i ∙ append-nil t

pub with_declaration_is : (h : List Name) (d : Decl) → with_declaration h (declaration d) ≡ with_name h (out-Decl d).name
with_declaration_is h d = ap (λ z. with_declaration h z) (declaration_is d)

-- A generator

pub in_generator_where : (h : List Name) (g : Gen) (e : Expr) (ns : List (Name × Span)) → (out-Gen g).cond ≡ Some e → ns ≡ (out-Gen g).names.items → in_generator h (generator g) ≡ in_tree h (tree (out-Gen g).set) ++ in_tree (with_bound h ns) (tree e)
unfolding in_tree
in_generator_where h g e ns i q =
    let t = in_tree h (tree (out-Gen g).set) in
    ap (in_generator h) (generator_is g) ∙ ap (λ z. t ++ in_maybe (with_bound h (out-Gen g).names.items) (pure.maybe (option_map tree z))) i ∙ ap (λ z. t ++ in_tree (with_bound h z) (tree e)) (sym q)

pub in_generator_alone : (h : List Name) (g : Gen) → (out-Gen g).cond ≡ None → in_generator h (generator g) ≡ in_tree h (tree (out-Gen g).set)
unfolding in_tree
in_generator_alone h g i =
    let t = in_tree h (tree (out-Gen g).set) in
    ap (in_generator h) (generator_is g) ∙ ap (λ z. t ++ in_maybe (with_bound h (out-Gen g).names.items) (pure.maybe (option_map tree z))) i ∙ append-nil t

pub with_generator_is : (h : List Name) (g : Gen) (ns : List (Name × Span)) → ns ≡ (out-Gen g).names.items → with_generator h (generator g) ≡ with_bound h ns
with_generator_is h g ns q = ap (λ z. with_generator h z) (generator_is g) ∙ ap (λ z. with_bound h z) (sym q)

-- A written type

pub in_array_type : (h : List Name) (t : TypeText) (bs : Vec TypeBase Global) (cs : List TypeBase) → (out-TypeText t).dims ≡ Some bs → cs ≡ bs.items → in_written h (written t) ≡ in_bases h (pure.bases (map based cs)) ++ in_based h (based (out-TypeText t).base)
unfolding in_tree
in_array_type h t bs cs i q =
    let b = in_based h (based (out-TypeText t).base) in
    ap (in_written h) (written_is t) ∙ ap (λ z. in_dims h (pure.dims (option_map (λ v. map based v.items) z)) ++ b) i ∙ ap (λ z. in_bases h (pure.bases (map based z)) ++ b) (sym q)

pub in_plain_type : (h : List Name) (t : TypeText) → (out-TypeText t).dims ≡ None → in_written h (written t) ≡ in_based h (based (out-TypeText t).base)
unfolding in_tree
in_plain_type h t i = ap (in_written h) (written_is t) ∙ ap (λ z. in_dims h (pure.dims (option_map (λ v. map based v.items) z)) ++ in_based h (based (out-TypeText t).base)) i

base_as : (h : List Name) (b c : TypeBase) (t : Based) → b ≡ c → based c ≡ t → in_based h (based b) ≡ in_based h t
base_as h b c t i e = ap (λ z. in_based h (based z)) i ∙ ap (in_based h) e

pub in_bool_base : (h : List Name) (b : TypeBase) → b ≡ base_types.Bool → in_based h (based b) ≡ []
unfolding in_tree
in_bool_base h b i = base_as h b base_types.Bool pure.base_bool i (base_is base_types.Bool ∙ simp form_lemmas refl)

pub in_int_base : (h : List Name) (b : TypeBase) → b ≡ base_types.Int → in_based h (based b) ≡ []
unfolding in_tree
in_int_base h b i = base_as h b base_types.Int pure.base_int i (base_is base_types.Int ∙ simp form_lemmas refl)

pub in_of_base : (h : List Name) (b : TypeBase) (x : Box Expr Global) (e : Expr) → b ≡ base_types.Of x → e ≡ x.value → in_based h (based b) ≡ in_tree h (tree e)
unfolding in_tree
in_of_base h b x e i p = base_as h b (base_types.Of x) (pure.base_of (tree x.value)) i (base_is (base_types.Of x) ∙ simp form_lemmas refl) ∙ ap (λ z. in_tree h (tree z)) (sym p)
