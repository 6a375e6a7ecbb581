-- Conjunctions taken apart.
use Rattle.std.proofs.Common.{◌≡◌, ◌∙◌, ℕ, Bool, true, false, ◌&&◌, List, [], ◌∷◌, ◌++◌, reverse, refl, sym, ap, subst}
use Rattle.std.proofs.lemmas.Grind.{reverse_onto}
use Rattle.mz_arena.specs.Entries.{Entry}
use Rattle.mz_arena.specs.Values.{Term, and_term, is_true}
use Rattle.mz_symbol.specs.Runs.{ReadsNodes, Run}
use Rattle.mz_symbol.specs.Readings.{Reading, Reads}
use Rattle.mz_symbol_rows.proofs.RowLaws.{bit_true}
use Rattle.mz_eval_symbols.specs.declared.nodes.Pair.TheVariants as pair
use Rattle.mz_eval_symbols.specs.StepsNodes.{IsPair}
use Rattle.mz_model_state.specs.Roots.{are_all_true}
use Rattle.mz_model_roots.specs.StepsOperands.{all_true}

and_true : (x y : Term) → is_true (and_term x y) ≡ (is_true x && is_true y)
unfolding and_term
and_true x y = bit_true (is_true x && is_true y)

and_apart : (p q r : Bool) → ((p && q) && r) ≡ (p && (r && q))
and_apart true true true = refl
and_apart true true false = refl
and_apart true false true = refl
and_apart true false false = refl
and_apart false q r = refl

and_twice : (p q : Bool) → ((p && q) && q) ≡ (p && q)
and_twice true true = refl
and_twice true false = refl
and_twice false q = refl

and_last : (p : Bool) → (p && true) ≡ p
and_last true = refl
and_last false = refl

and_turned : (p q : Bool) → (p && q) ≡ (q && p)
and_turned true true = refl
and_turned true false = refl
and_turned false true = refl
and_turned false false = refl

and_grouped : (p q r : Bool) → (p && (q && r)) ≡ ((p && q) && r)
and_grouped true q r = refl
and_grouped false q r = refl

more_true : (t : ℕ → Term) (ids : List ℕ) (id : ℕ) → all_true t (ids ++ id ∷ []) ≡ (all_true t ids && is_true (t id))
more_true t [] id = and_last (is_true (t id))
more_true t (i ∷ ids) id = ap (λ b. is_true (t i) && b) (more_true t ids id) ∙ and_grouped (is_true (t i)) (all_true t ids) (is_true (t id))

pub taken_off : (es : List Entry) (ids more : List ℕ) (id : ℕ) (p : ℕ × ℕ) → IsPair es pair.And id p → more ≡ ids ++ p.1 ∷ [] → (t : ℕ → Term) → ReadsNodes t es → (all_true t more && is_true (t p.0)) ≡ (all_true t ids && is_true (t id))
taken_off es ids more id p f e t h =
    ap (λ is. all_true t is && is_true (t p.0)) e
    ∙ ap (λ b. b && is_true (t p.0)) (more_true t ids p.1)
    ∙ and_apart (all_true t ids) (is_true (t p.1)) (is_true (t p.0))
    ∙ ap (λ b. all_true t ids && b) (sym (and_true (t p.0) (t p.1)) ∙ ap is_true (sym (f t h)))

pub once_more : (t : ℕ → Term) (ids more : List ℕ) (id : ℕ) → more ≡ ids ++ id ∷ [] → (all_true t more && is_true (t id)) ≡ (all_true t ids && is_true (t id))
once_more t ids more id e =
    ap (λ is. all_true t is && is_true (t id)) e
    ∙ ap (λ b. b && is_true (t id)) (more_true t ids id)
    ∙ and_twice (all_true t ids) (is_true (t id))

turned_true : (t : ℕ → Term) (ids : List ℕ) → all_true t (reverse ids) ≡ all_true t ids
turned_true t [] = refl
turned_true t (id ∷ ids) =
    ap (all_true t) (reverse_onto ids id [])
    ∙ more_true t (reverse ids) id
    ∙ ap (λ b. b && is_true (t id)) (turned_true t ids)
    ∙ and_turned (all_true t ids) (is_true (t id))

-- no operand is taken off yet
pub none_taken : (t : ℕ → Term) (ids : List ℕ) (id : ℕ) → ids ≡ [] → (all_true t ids && is_true (t id)) ≡ is_true (t id)
none_taken t ids id e = ap (λ is. all_true t is && is_true (t id)) e

pub all_taken : (t : ℕ → Term) (ids all last : List ℕ) (before id : ℕ) → all ≡ ids ++ before ∷ [] → last ≡ reverse all → (all_true t ids && is_true (t before)) ≡ is_true (t id) → all_true t last ≡ is_true (t id)
all_taken t ids all last before id e f h =
    ap (all_true t) f ∙ turned_true t all ∙ ap (all_true t) e ∙ more_true t ids before ∙ h

-- the same of roots
pub same_true : (r : Reading) (ids : List ℕ) → are_all_true r ids ≡ all_true r.term ids
same_true r [] = refl
same_true r (id ∷ ids) = ap (λ b. is_true (r.term id) && b) (same_true r ids)

pub roots_true : (s : Run) (ids : List ℕ) (id : ℕ) (es : List Entry) → es ≡ s.arena → ((t : ℕ → Term) → ReadsNodes t es → all_true t ids ≡ is_true (t id)) → (r : Reading) → Reads r s → are_all_true r ids ≡ is_true (r.term id)
roots_true s ids id es e f r h = same_true r ids ∙ f r.term (subst (ReadsNodes r.term) (sym e) h.nodes)
