-- Lists of operators by their first and by their last one.
use Rattle.std.proofs.Common.{◌≡◌, ◌∙◌, ℕ, zero, suc, ◌-◌, ◌<◌, ◌≤◌, false, nat_eq, List, [], ◌∷◌, ◌++◌, map, length, take, get_or, append_assoc, refl, sym, ap, arith}
use Rattle.mz_base.specs.declared.fault.Span.{Span}
use Rattle.mz_core.specs.declared.tree.CoreStep.{CoreStep}
use Rattle.mz_core.specs.Coercions.{PathLink}
use Rattle.mz_core.specs.TreeViews.{step}
use Rattle.mz_operations.specs.Lines.{level_of}
use Rattle.mz_meaning.specs.Chains.{Operator, chain_level, same_level, operators_at, with_left}
use Rattle.mz_eval_chains.specs.Innermosts.{left_of_step}

pub no_level : (l : ℕ) (ss : List CoreStep) → length ss < 1 → false ≡ same_level l (map step ss)
no_level l [] h = refl
no_level l (s ∷ ss) h = absurd (omega arith)

pub first_level : (l : ℕ) (ss : List CoreStep) (s : CoreStep) → 1 ≤ length ss → s ≡ get_or ss 0 s → nat_eq l (level_of s.row) ≡ same_level l (map step ss)
first_level l [] s h e = absurd (omega arith)
first_level l (x ∷ ss) s h e = ap (λ y. nat_eq l (level_of y.row)) e

pub no_chain : (ss : List CoreStep) → length ss < 1 → 0 ≡ chain_level (map step ss)
no_chain [] h = refl
no_chain (s ∷ ss) h = absurd (omega arith)

pub first_chain : (ss : List CoreStep) (s : CoreStep) → 1 ≤ length ss → s ≡ get_or ss 0 s → level_of s.row ≡ chain_level (map step ss)
first_chain [] s h e = absurd (omega arith)
first_chain (x ∷ ss) s h e = ap (λ y. level_of y.row) e

pub no_operators : (at : Span) (ls : List PathLink) (os : List Operator) (ss : List CoreStep) → length ss < 1 → os ≡ os ++ operators_at at (with_left ls (map step ss))
no_operators at ls [] [] h = refl
no_operators at ls (o ∷ os) [] h = ap (λ t. o ∷ t) (no_operators at ls os [] h)
no_operators at ls os (s ∷ ss) h = absurd (omega arith)

-- a first operator with further coercions, and those after it
abbrev first_with : Span → List PathLink → CoreStep → Operator
first_with at ls s = record { at = at; step = left_of_step ls (step s) }

operators_split : (at : Span) (ls : List PathLink) (ss others : List CoreStep) (s : CoreStep) → ss ≡ s ∷ others → first_with at ls s ∷ operators_at at (map step others) ≡ operators_at at (with_left ls (map step ss))
operators_split at ls ss others s h = sym (ap (λ xs. operators_at at (with_left ls (map step xs))) h)

pub operators_apart : (at : Span) (ls : List PathLink) (os begun all : List Operator) (ss others : List CoreStep) (s : CoreStep) → begun ≡ os ++ (first_with at ls s ∷ []) → all ≡ begun ++ operators_at at (map step others) → ss ≡ s ∷ others → all ≡ os ++ operators_at at (with_left ls (map step ss))
operators_apart at ls os begun all ss others s b a h =
    a
    ∙ ap (λ xs. xs ++ operators_at at (map step others)) b
    ∙ append_assoc os (first_with at ls s ∷ []) (operators_at at (map step others))
    ∙ ap (λ xs. os ++ xs) (operators_split at ls ss others s h)

-- and by its last one
last_split : {A : Type 0} (n : ℕ) (xs : List A) (x : A) → suc n ≡ length xs → x ≡ get_or xs n x → xs ≡ take n xs ++ (x ∷ [])
last_split n [] x h e = absurd (omega arith)
last_split zero (y ∷ []) x h e = ap (λ z. z ∷ []) (sym e)
last_split zero (y ∷ z ∷ xs) x h e = absurd (omega arith)
last_split (suc n) (y ∷ xs) x h e = ap (λ ys. y ∷ ys) (last_split n xs x (omega arith) e)

pub list_by_last : {A : Type 0} (n : ℕ) (xs others : List A) (x : A) → n ≡ length xs → (n ≡ 0 → ⊥) → x ≡ get_or xs (n - 1) x → others ≡ take (n - 1) xs → xs ≡ others ++ (x ∷ [])
list_by_last n xs others x h some e o =
    let long : suc (n - 1) ≡ length xs = omega arith in
    last_split (n - 1) xs x long e ∙ ap (λ ys. ys ++ (x ∷ [])) (sym o)
