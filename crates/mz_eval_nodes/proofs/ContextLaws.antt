-- The contexts of a chain's operands.
use Rattle.std.proofs.Common.{◌≡◌, ◌∙◌, ℕ, ◌+◌, ◌<◌, Bool, true, false, ◌||◌, Box, List, [], ◌∷◌, ◌++◌, map, length, drop, get_or, refl, sym, ap}
use Rattle.std.proofs.lemmas.List.{at_drop_more}
use Rattle.std.specs.Global.{Global}
use Rattle.mz_core.specs.declared.types.Coercion.{Coercion}
use Rattle.mz_core.specs.declared.tree.Core.{Core}
use Rattle.mz_core.specs.declared.tree.CoreForm.TheVariants as forms
use Rattle.mz_core.specs.Types.{plain_type}
use Rattle.mz_core.specs.Tree.{root_coercions}
use Rattle.mz_core.specs.TreeViews.{tree}
use Rattle.mz_core.specs.Coercions.{PathLink}
use Rattle.mz_meaning.specs.Contexts as contexts
use Rattle.mz_meaning.specs.Contexts.{Untested, Positive, Other, link_closes, links_close}
use Rattle.mz_meaning.specs.Chains as chains
use Rattle.mz_meaning.specs.Chains.{before, before_all, first_in, left_in}
use Rattle.mz_eval_scopes.specs.declared.types.Context.{Context}
use Rattle.mz_eval_scopes.specs.Seen.{ctx_of}
use Rattle.mz_eval_chains.specs.declared.types.Operator.{Operator}
use Rattle.mz_eval_chains.specs.Innermosts.{operator_of}
use Rattle.mz_eval_chains.proofs.Layers.{coercions_of_coerce}
use Rattle.mz_eval_nodes.specs.Contexts.{later, later_all}

or_assoc : (a b c : Bool) → (a || (b || c)) ≡ ((a || b) || c)
or_assoc true b c = refl
or_assoc false b c = refl

pub closes_both : (ls ms : List PathLink) → links_close (ls ++ ms) ≡ (links_close ls || links_close ms)
closes_both [] ms = refl
closes_both (l ∷ ls) ms = ap (λ b. link_closes l.0 || b) (closes_both ls ms) ∙ or_assoc (link_closes l.0) (links_close ls) (links_close ms)

or_false : (b : Bool) → (b || false) ≡ b
or_false true = refl
or_false false = refl

pub round_is : (e part : Core) (k : Coercion) (b : Box Core Global) → e.form ≡ forms.Coerce k b → part ≡ b.value → links_close (root_coercions (tree e)) ≡ (links_close (root_coercions (tree part)) || link_closes k)
round_is e part k b h p =
    ap links_close (coercions_of_coerce e part k b h p)
    ∙ closes_both (root_coercions (tree part)) ((k, plain_type e.ty) ∷ [])
    ∙ ap (λ c. links_close (root_coercions (tree part)) || c) (or_false (link_closes k))

pub first_of_none : (c : contexts.Context) → first_in c [] ≡ c
first_of_none Untested = refl
first_of_none Positive = refl
first_of_none Other = refl

pub first_of_some : (c : contexts.Context) (o : chains.Operator) (os : List chains.Operator) → first_in c (o ∷ os) ≡ left_in c o.step
first_of_some Untested o os = refl
first_of_some Positive o os = refl
first_of_some Other o os = refl

-- the operators from a place on, with the one before
pub operators_at : (xs : List Operator) (n m : ℕ) (d : Operator) → n ≡ m + 1 → m < length xs → map operator_of (drop m xs) ≡ operator_of (get_or xs m d) ∷ map operator_of (drop n xs)
operators_at xs n m d e h = at_drop_more (map operator_of) xs m d h ∙ ap (λ k. operator_of (get_or xs m d) ∷ map operator_of (drop k xs)) (sym e)

-- ---- what is popped

last_there : {A : Type 0} (xs : List A) (x : A) → xs ++ x ∷ [] ≡ [] → ⊥
last_there [] x h = cc
last_there (y ∷ xs) x h = cc

last_same : {A : Type 0} (xs ys : List A) (x y : A) → xs ++ x ∷ [] ≡ ys ++ y ∷ [] → (x ≡ y) × (xs ≡ ys)
last_same [] [] x y h = (cc, refl)
last_same [] (z ∷ ys) x y h = absurd (last_there ys y (cc))
last_same (z ∷ xs) [] x y h = absurd (last_there xs x (cc))
last_same (z ∷ xs) (w ∷ ys) x y h =
    let t : xs ++ x ∷ [] ≡ ys ++ y ∷ [] = cc in
    let e : z ≡ w = cc in
    let r = last_same xs ys x y t in
    (r.0, ap (λ a. a ∷ xs) e ∙ ap (λ l. w ∷ l) r.1)

pub map_last : (cs : List Context) (c : Context) → map ctx_of (cs ++ c ∷ []) ≡ map ctx_of cs ++ ctx_of c ∷ []
map_last [] c = refl
map_last (d ∷ cs) c = ap (λ l. ctx_of d ∷ l) (map_last cs c)

pub record Popped (c : contexts.Context) (cs : List contexts.Context) (ctx : contexts.Context) (os : List chains.Operator) : Type 0 where
  pub node : c ≡ before ctx os
  pub left : cs ≡ later ctx os

pub popped_none : (ctx : contexts.Context) (o : chains.Operator) (os : List chains.Operator) → [] ≡ later ctx (o ∷ os) → Popped ctx [] ctx os
popped_none Untested o os h = record { node = refl; left = refl }
popped_none Positive o os h = absurd (last_there (later_all os) (before_all os) (sym h))
popped_none Other o os h = record { node = refl; left = refl }

pub popped_some : (ctx : contexts.Context) (o : chains.Operator) (os : List chains.Operator) (cs : List Context) (c : Context) → map ctx_of (cs ++ c ∷ []) ≡ later ctx (o ∷ os) → Popped (ctx_of c) (map ctx_of cs) ctx os
popped_some Untested o os cs c h = absurd (last_there (map ctx_of cs) (ctx_of c) (sym (map_last cs c) ∙ h))
popped_some Positive o os cs c h =
    let r = last_same (map ctx_of cs) (later_all os) (ctx_of c) (before_all os) (sym (map_last cs c) ∙ h) in
    record { node = r.0; left = r.1 }
popped_some Other o os cs c h = absurd (last_there (map ctx_of cs) (ctx_of c) (sym (map_last cs c) ∙ h))

-- ---- one operator more, from the last on

pub later_next : (xs : List Operator) (n m : ℕ) (d : Operator) (cs : List Context) (c : Context) → n ≡ m + 1 → m < length xs → ctx_of c ≡ before_all (map operator_of (drop n xs)) → map ctx_of cs ≡ later_all (map operator_of (drop n xs)) → map ctx_of (cs ++ c ∷ []) ≡ later_all (map operator_of (drop m xs))
later_next xs n m d cs c e h f g =
    map_last cs c
    ∙ ap (λ l. l ++ ctx_of c ∷ []) g
    ∙ ap (λ k. later_all (map operator_of (drop n xs)) ++ k ∷ []) f
    ∙ sym (ap later_all (operators_at xs n m d e h))

pub before_next : (xs : List Operator) (n m : ℕ) (d : Operator) (c k : Context) → n ≡ m + 1 → m < length xs → ctx_of c ≡ before_all (map operator_of (drop n xs)) → ctx_of k ≡ left_in (ctx_of c) (operator_of (get_or xs m d)).step → ctx_of k ≡ before_all (map operator_of (drop m xs))
before_next xs n m d c k e h f g =
    g
    ∙ ap (λ x. left_in x (operator_of (get_or xs m d)).step) f
    ∙ sym (ap before_all (operators_at xs n m d e h))
