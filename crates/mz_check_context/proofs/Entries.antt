-- Entries of names and of numbers, found by an index.
use Rattle.std.proofs.Common.{◌≡◌, ℕ, Bool, true, false, cond, List, [], ◌∷◌, ◌++◌, Option, Some, None, refl, sym, ap, ◌∙◌, ⊎_elim, map}
use Rattle.std.specs.Prelude.{nat_eq}
use Rattle.std.specs.Map.{lookup}
use Rattle.std.proofs.lemmas.Bool.{eq-eqb, ne_eqb, or_parts}
use Rattle.std.proofs.lemmas.Bool.Decides.{eqb_tells}
use Rattle.indexmap.specs.IndexMap.{insert_entry}
use Rattle.mz_scope_names.specs.Sets.{holds}
use Rattle.mz_scope_order.specs.Scoped.{AreDistinct}
use Rattle.mz_check_meaning.specs.Models.{entry_of}

pub same_both : (a b : ℕ) → nat_eq a b ≡ nat_eq b a
same_both a b = ⊎_elim (λ t. t.0 ∙ sym (eq-eqb b a (sym t.1))) (λ t. t.0 ∙ sym (ne_eqb b a (λ e. t.1 (sym e)))) (eqb_tells a b)

-- the first entry of a number is what an index finds
pub entry_found : {A : Type 0} (n : ℕ) (es : List (ℕ × A)) → entry_of n es ≡ lookup (nat_eq n) es
unfolding entry_of
entry_found n [] = refl
entry_found n (e ∷ es) =
    ap (λ b. cond b (Some e.1) (entry_of n es)) (same_both e.0 n) ∙ ap (λ o. cond (nat_eq n e.0) (Some e.1) o) (entry_found n es)

one_more_last : {A : Type 0} (b c : Bool) (e : ℕ × A) (es more : List (ℕ × A)) (n : ℕ) (x : A) (rest : Option A) → b ≡ c → cond b (Some e.1) rest ≡ None
    → (rest ≡ None → more ≡ es ++ (n, x) ∷ []) → cond c ((e.0, x) ∷ es) (e ∷ more) ≡ e ∷ (es ++ (n, x) ∷ [])
one_more_last true c e es more n x rest same none after = absurd (cc)
one_more_last false true e es more n x rest same none after = absurd (cc)
one_more_last false false e es more n x rest same none after = ap (λ l. e ∷ l) (after none)

-- an entry of a new number goes last
pub entry_added : {A : Type 0} (es : List (ℕ × A)) (n : ℕ) (x : A) → entry_of n es ≡ None → insert_entry nat_eq es n x ≡ es ++ (n, x) ∷ []
unfolding entry_of
entry_added [] n x none = refl
entry_added (e ∷ es) n x none =
    one_more_last (nat_eq e.0 n) (nat_eq n e.0) e es (insert_entry nat_eq es n x) n x (entry_of n es) (same_both e.0 n) none (entry_added es n x)

-- a name that is none of a list is not the one in its middle
not_between : {A : Type 0} (n : ℕ) (es : List (ℕ × A)) (e : ℕ × A) (rest : List (ℕ × A)) → holds n (map (λ d. d.0) (es ++ e ∷ rest)) ≡ false → nat_eq n e.0 ≡ false
not_between n [] e rest none = (or_parts (nat_eq n e.0) (holds n (map (λ d. d.0) rest)) none).0
not_between n (d ∷ es) e rest none = not_between n es e rest (or_parts (nat_eq n d.0) (holds n (map (λ f. f.0) (es ++ e ∷ rest))) none).1

not_first : {A : Type 0} (b : Bool) (x : A) (o : Option A) → b ≡ false → o ≡ None → cond b (Some x) o ≡ None
not_first true x o other none = absurd (cc)
not_first false x o other none = none

-- of names that stand once each, the next one is new
pub next_is_new : {A : Type 0} (es : List (ℕ × A)) (e : ℕ × A) (rest : List (ℕ × A)) → AreDistinct (map (λ d. d.0) (es ++ e ∷ rest)) → entry_of e.0 es ≡ None
unfolding entry_of
next_is_new [] e rest once = refl
next_is_new (d ∷ es) e rest once =
    not_first (nat_eq d.0 e.0) d.1 (entry_of e.0 es) (not_between d.0 es e rest once.0) (next_is_new es e rest once.1)
