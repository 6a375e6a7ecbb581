-- What is read of an expression once the variant of its form is known.
use Rattle.std.proofs.Common.{◌≡◌, ◌∙◌, ℕ, Bool, true, false, Option, Some, None, is_some, List, [], ◌∷◌, ◌++◌, Vec, Box, map, append_assoc, refl, sym, ap, if◌then◌else◌}
use Rattle.std.specs.Global.{Global}
use Rattle.std.specs.Option.{option_map}
use Rattle.mz_base.specs.declared.fault.Span.{Span}
use Rattle.mz_core.specs.declared.types.Coercion.{Coercion}
use Rattle.mz_core.specs.declared.tree.Core.{Core}
use Rattle.mz_core.specs.declared.tree.CoreStep.{CoreStep}
use Rattle.mz_core.specs.declared.tree.CoreForm.TheVariants as forms
use Rattle.mz_core.specs.declared.tree.CoreForm.TheViews.{out-CoreForm}
use Rattle.mz_core.specs.Types.{PlainType, plain_type}
use Rattle.mz_core.specs.Coercions.{PathLink}
use Rattle.mz_core.specs.Tree as trees
use Rattle.mz_core.specs.Tree.{chain_form, coerce_form, root_coercions, inner_tree, steps}
use Rattle.mz_core.specs.TreeViews.{tree, step, form_layer, inner_in, coercions_in}
use Rattle.mz_core.proofs.TreeLaws.{inner_tree_is, root_coercions_is}
use Rattle.mz_meaning.specs.Runs.{State, then_do}
use Rattle.mz_meaning.specs.Cells.{Cell}
use Rattle.mz_meaning.specs.Coerced.{coerced_type}
use Rattle.mz_meaning.specs.Forms.{World, coerced_once, coerced_by}
use Rattle.mz_meaning.specs.Chains as chains
use Rattle.mz_meaning.specs.Chains.{same_level, with_innermost, coerced_innermost, back_of, backed, with_right}
use Rattle.mz_eval_chains.specs.declared.types.Innermost.{Innermost}
use Rattle.mz_eval_chains.specs.Innermosts.{innermost_of, innermost_by, back_by, part_innermost, appends_at, place_after, last_with}
use Rattle.mz_eval_chains.proofs.Runs.{coerced_last, coerced_type_last}
use Rattle.mz_eval_chains.proofs.Innermosts.{innermost_of_tree, back_of_tree, coerced_last_with, backed_apart}

-- ---- a coercion

coerce_layer : (e part : Core) (k : Coercion) (b : Box Core Global) → e.form ≡ forms.Coerce k b → part ≡ b.value → form_layer (out-CoreForm e.form) ≡ coerce_form k (tree part)
coerce_layer e part k b h p =
    ap (λ f. form_layer (out-CoreForm f)) h
    ∙ ap form_layer (forms.outs-Coerce k b)
    ∙ ap (λ x. coerce_form k (tree x)) (sym p)

pub inner_of_coerce : (e part : Core) (k : Coercion) (b : Box Core Global) → e.form ≡ forms.Coerce k b → part ≡ b.value → inner_tree (tree e) ≡ inner_tree (tree part)
inner_of_coerce e part k b h p =
    inner_tree_is e
    ∙ ap (λ f. inner_in (tree e) (out-CoreForm f)) h
    ∙ ap (inner_in (tree e)) (forms.outs-Coerce k b)
    ∙ ap (λ x. inner_tree (tree x)) (sym p)

pub coercions_of_coerce : (e part : Core) (k : Coercion) (b : Box Core Global) → e.form ≡ forms.Coerce k b → part ≡ b.value → root_coercions (tree e) ≡ root_coercions (tree part) ++ ((k, plain_type e.ty) ∷ [])
coercions_of_coerce e part k b h p =
    root_coercions_is e
    ∙ ap (λ f. coercions_in (plain_type e.ty) (out-CoreForm f)) h
    ∙ ap (coercions_in (plain_type e.ty)) (forms.outs-Coerce k b)
    ∙ ap (λ x. root_coercions (tree x) ++ ((k, plain_type e.ty) ∷ [])) (sym p)

pub coerced_round : (w : World) (at : Span) (e part : Core) (k : Coercion) (b : Box Core Global) (c : Cell) (s : State) → e.form ≡ forms.Coerce k b → part ≡ b.value → coerced_by w at (root_coercions (tree e)) c s ≡ then_do (coerced_by w at (root_coercions (tree part)) c s) (λ next. coerced_once w at next (k, plain_type e.ty))
coerced_round w at e part k b c s h p =
    ap (λ ls. coerced_by w at ls c s) (coercions_of_coerce e part k b h p)
    ∙ coerced_last w at (root_coercions (tree part)) (k, plain_type e.ty) c s

-- the type after the coercions round an expression is that of the expression
type_after_round : (t : PlainType) (e part : Core) (k : Coercion) (b : Box Core Global) → e.form ≡ forms.Coerce k b → part ≡ b.value → coerced_type t (root_coercions (tree e)) ≡ plain_type e.ty
type_after_round t e part k b h p =
    ap (coerced_type t) (coercions_of_coerce e part k b h p)
    ∙ coerced_type_last t (root_coercions (tree part)) (k, plain_type e.ty)

pub base_after_round : (t : PlainType) (e : Core) (k : Coercion) (b : Box Core Global) → e.form ≡ forms.Coerce k b → e.ty.base ≡ (coerced_type t (root_coercions (tree e))).base
unfolding plain_type
base_after_round t e k b h = sym (ap (λ (z : PlainType). z.base) (type_after_round t e b.value k b h refl))

-- ---- a first operand

is_some_mapped : {A B : Type 0} (f : A → B) (o : Option A) → is_some o ≡ is_some (option_map f o)
is_some_mapped f None = refl
is_some_mapped f (Some x) = refl

is_some_if : {A : Type 0} (t : Bool) (x : A) → t ≡ is_some (if t then Some x else None)
is_some_if true x = refl
is_some_if false x = refl

innermost_of_coerce : (l : ℕ) (e part : Core) (k : Coercion) (b : Box Core Global) → e.form ≡ forms.Coerce k b → part ≡ b.value → chains.innermost_of l (tree e) ≡ option_map (coerced_innermost (k, plain_type e.ty)) (chains.innermost_of l (tree part))
innermost_of_coerce l e part k b h p =
    innermost_of_tree l e
    ∙ ap (innermost_by l e.span (plain_type e.ty)) (coerce_layer e part k b h p)

pub is_innermost_of_coerce : (l : ℕ) (e part : Core) (k : Coercion) (b : Box Core Global) → e.form ≡ forms.Coerce k b → part ≡ b.value → is_some (chains.innermost_of l (tree part)) ≡ is_some (chains.innermost_of l (tree e))
is_innermost_of_coerce l e part k b h p =
    is_some_mapped (coerced_innermost (k, plain_type e.ty)) (chains.innermost_of l (tree part))
    ∙ ap (λ o. is_some o) (sym (innermost_of_coerce l e part k b h p))

-- one coercion more round an operand
more_links : (ls : List PathLink) (l : PathLink) (o : Option Innermost) → option_map (coerced_innermost l) (part_innermost ls o) ≡ part_innermost (ls ++ (l ∷ [])) o
more_links ls l None = refl
more_links ls l (Some f) = refl

pub innermost_coerced : (l : ℕ) (e part : Core) (k : Coercion) (b : Box Core Global) (o : Option Innermost) → e.form ≡ forms.Coerce k b → part ≡ b.value → chains.innermost_of l (tree part) ≡ part_innermost (root_coercions (tree part)) o → chains.innermost_of l (tree e) ≡ part_innermost (root_coercions (tree e)) o
innermost_coerced l e part k b o h p is =
    innermost_of_coerce l e part k b h p
    ∙ ap (option_map (coerced_innermost (k, plain_type e.ty))) is
    ∙ more_links (root_coercions (tree part)) (k, plain_type e.ty) o
    ∙ ap (λ ls. part_innermost ls o) (sym (coercions_of_coerce e part k b h p))

chain_layer : (e first : Core) (b : Box Core Global) (v : Vec CoreStep Global) (all : List CoreStep) → e.form ≡ forms.Chain b v → first ≡ b.value → all ≡ v.items → form_layer (out-CoreForm e.form) ≡ chain_form (tree first) (map step all)
chain_layer e first b v all h p q =
    ap (λ f. form_layer (out-CoreForm f)) h
    ∙ ap form_layer (forms.outs-Chain b v)
    ∙ ap (λ x. chain_form (tree x) (map step v.items)) (sym p)
    ∙ ap (λ ss. chain_form (tree first) (map step ss)) (sym q)

coercions_of_chain : (e : Core) (b : Box Core Global) (v : Vec CoreStep Global) → e.form ≡ forms.Chain b v → root_coercions (tree e) ≡ []
coercions_of_chain e b v h =
    root_coercions_is e
    ∙ ap (λ f. coercions_in (plain_type e.ty) (out-CoreForm f)) h
    ∙ ap (coercions_in (plain_type e.ty)) (forms.outs-Chain b v)

-- a chain of this level, if it is one
abbrev innermost_if : ℕ → Span → List trees.Step → trees.Tree → Bool → Option chains.Innermost
innermost_if l at ss e t = if t then Some (with_innermost at ss e (chains.innermost_of l e)) else None

innermost_of_chain : (l : ℕ) (e first : Core) (b : Box Core Global) (v : Vec CoreStep Global) (all : List CoreStep) → e.form ≡ forms.Chain b v → first ≡ b.value → all ≡ v.items → chains.innermost_of l (tree e) ≡ innermost_if l e.span (map step all) (tree first) (same_level l (map step all))
innermost_of_chain l e first b v all h p q =
    innermost_of_tree l e
    ∙ ap (innermost_by l e.span (plain_type e.ty)) (chain_layer e first b v all h p q)

pub is_innermost_of_chain : (l : ℕ) (e : Core) (b : Box Core Global) (v : Vec CoreStep Global) (all : List CoreStep) → e.form ≡ forms.Chain b v → all ≡ v.items → same_level l (map step all) ≡ is_some (chains.innermost_of l (tree e))
is_innermost_of_chain l e b v all h q =
    is_some_if (same_level l (map step all)) (with_innermost e.span (map step all) (tree b.value) (chains.innermost_of l (tree b.value)))
    ∙ ap (λ o. is_some o) (sym (innermost_of_chain l e b.value b v all h refl q))

-- no chain of the level
pub no_innermost_of_chain : (l : ℕ) (e : Core) (b : Box Core Global) (v : Vec CoreStep Global) (all : List CoreStep) → e.form ≡ forms.Chain b v → all ≡ v.items → same_level l (map step all) ≡ false → chains.innermost_of l (tree e) ≡ None
no_innermost_of_chain l e b v all h q other =
    innermost_of_chain l e b.value b v all h refl q
    ∙ ap (innermost_if l e.span (map step all) (tree b.value)) other

abbrev innermost_made : chains.Innermost → Option chains.Innermost
innermost_made g = Some g

-- one of the level, with its own first operand
pub innermost_chained : (l : ℕ) (e first again : Core) (b : Box Core Global) (v : Vec CoreStep Global) (all : List CoreStep) (part : Option Innermost) (f : Innermost) → e.form ≡ forms.Chain b v → first ≡ b.value → again ≡ b.value → all ≡ v.items → same_level l (map step all) ≡ true → chains.innermost_of l (tree first) ≡ part_innermost (root_coercions (tree first)) part → innermost_of f ≡ with_innermost e.span (map step all) (tree again) (part_innermost (root_coercions (tree again)) part) → chains.innermost_of l (tree e) ≡ part_innermost (root_coercions (tree e)) (Some f)
innermost_chained l e first again b v all part f h p p2 q same is made =
    innermost_of_chain l e first b v all h p q
    ∙ ap (innermost_if l e.span (map step all) (tree first)) same
    ∙ ap (λ o. innermost_made (with_innermost e.span (map step all) (tree first) o)) is
    ∙ ap (λ x. innermost_made (with_innermost e.span (map step all) (tree x) (part_innermost (root_coercions (tree x)) part))) (p ∙ sym p2)
    ∙ ap innermost_made (sym made)
    ∙ ap (λ ls. part_innermost ls (Some f)) (sym (coercions_of_chain e b v h))

-- ---- a last operand of `++`

back_of_coerce : (e part : Core) (k : Coercion) (b : Box Core Global) → e.form ≡ forms.Coerce k b → part ≡ b.value → back_of (tree e) ≡ option_map (coerced_innermost (k, plain_type e.ty)) (back_of (tree part))
back_of_coerce e part k b h p =
    back_of_tree e
    ∙ ap (back_by e.span (plain_type e.ty)) (coerce_layer e part k b h p)

pub last_coerced : (at : Span) (s : trees.Step) (ls : List PathLink) (e part : Core) (k : Coercion) (b : Box Core Global) → e.form ≡ forms.Coerce k b → part ≡ b.value → last_with at s ls (back_of (tree part)) ≡ last_with at s ls (back_of (tree e))
last_coerced at s ls e part k b h p =
    sym (ap (last_with at s ls) (back_of_coerce e part k b h p)
    ∙ coerced_last_with at s ls (k, plain_type e.ty) (back_of (tree part)))

abbrev back_if : Span → trees.Tree → List trees.Step → Bool → Option chains.Innermost
back_if at e ss t = if t then Some (record { first = e; operators = backed at (steps ss); links = [] }) else None

back_of_chain : (e first : Core) (b : Box Core Global) (v : Vec CoreStep Global) (all : List CoreStep) → e.form ≡ forms.Chain b v → first ≡ b.value → all ≡ v.items → back_of (tree e) ≡ back_if e.span (tree first) (map step all) (same_level 12 (map step all))
back_of_chain e first b v all h p q =
    back_of_tree e
    ∙ ap (back_by e.span (plain_type e.ty)) (chain_layer e first b v all h p q)

pub last_of_other : (at : Span) (s : trees.Step) (ls : List PathLink) (e : Core) (b : Box Core Global) (v : Vec CoreStep Global) (all : List CoreStep) → e.form ≡ forms.Chain b v → all ≡ v.items → same_level 12 (map step all) ≡ false → record { at = at; step = s } ∷ [] ≡ last_with at s ls (back_of (tree e))
last_of_other at s ls e b v all h q other =
    sym (ap (last_with at s ls) (back_of_chain e b.value b v all h refl q
    ∙ ap (back_if e.span (tree b.value) (map step all)) other))

-- the operator before, all operators of the operand but the last, and the last
pub last_of_chain : (at : Span) (s : trees.Step) (ls : List PathLink) (e first : Core) (b : Box Core Global) (v : Vec CoreStep Global) (all others : List CoreStep) (x : CoreStep) (place : Span) (os begun made : List chains.Operator) → e.form ≡ forms.Chain b v → first ≡ b.value → all ≡ v.items → same_level 12 (map step all) ≡ true → all ≡ others ++ (x ∷ []) → begun ≡ (os ++ (record { at = at; step = with_right ls (tree first) s } ∷ [])) ++ appends_at e.span (map step others) → place ≡ place_after e.span (map step others) → made ≡ begun ++ last_with place (step x) (root_coercions (tree x.operand)) (back_of (tree x.operand)) → made ≡ os ++ last_with at s ls (back_of (tree e))
last_of_chain at s ls e first b v all others x place os begun made h p q same split first_is place_is last_is =
    let last_from : Span → List chains.Operator = λ y. last_with y (step x) (root_coercions (tree x.operand)) (back_of (tree x.operand)) in
    let last = last_from (place_after e.span (map step others)) in
    let rest = appends_at e.span (map step others) in
    let o : chains.Operator = record { at = at; step = with_right ls (tree first) s } in
    last_is
    ∙ ap (λ y. begun ++ last_from y) place_is
    ∙ ap (λ ys. ys ++ last) first_is
    ∙ append_assoc (os ++ (o ∷ [])) rest last
    ∙ append_assoc os (o ∷ []) (rest ++ last)
    ∙ ap (λ ys. os ++ (o ∷ ys)) (sym (backed_apart e.span all others x split))
    ∙ ap (λ ys. os ++ ys) (sym (ap (last_with at s ls) (back_of_chain e first b v all h p q ∙ ap (back_if e.span (tree first) (map step all)) same)))

-- what is put after a list, written otherwise
pub other_end : {A : Type 0} (os vs a b : List A) → a ≡ b → vs ≡ os ++ a → vs ≡ os ++ b
other_end os vs a b h e = e ∙ ap (λ xs. os ++ xs) h
