-- Numbers that are grouped by names.
use Rattle.std.proofs.Common.{◌≡◌, ℕ, Bool, true, false, cond, List, [], ◌∷◌, ◌++◌, refl, sym, ap, ◌∙◌, append_assoc, append-nil}
use Rattle.std.specs.Prelude.{nat_eq}
use Rattle.mz_check_meaning.specs.Models.{entries_of}

first_or_not : (b : Bool) (k : ℕ) (ks : List ℕ) → cond b (k ∷ ks) ks ≡ cond b (k ∷ []) [] ++ ks
first_or_not true k ks = refl
first_or_not false k ks = refl

-- the numbers of a name, of which the first entry may have one
pub first_number : (n : ℕ) (e : ℕ × ℕ) (es : List (ℕ × ℕ)) → entries_of n (e ∷ es) ≡ cond (nat_eq e.0 n) (e.1 ∷ []) [] ++ entries_of n es
unfolding entries_of
first_number n e es = first_or_not (nat_eq e.0 n) e.1 (entries_of n es)

-- one more entry is grouped
pub one_grouped : (n : ℕ) (e : ℕ × ℕ) (es : List (ℕ × ℕ)) (old new whole : List ℕ) → old ++ entries_of n (e ∷ es) ≡ whole → new ≡ old ++ cond (nat_eq e.0 n) (e.1 ∷ []) [] → new ++ entries_of n es ≡ whole
one_grouped n e es old new whole so_far is =
    ap (λ l. l ++ entries_of n es) is ∙ append_assoc old (cond (nat_eq e.0 n) (e.1 ∷ []) []) (entries_of n es) ∙ ap (λ l. old ++ l) (sym (first_number n e es)) ∙ so_far

pub all_grouped : (n : ℕ) (old whole : List ℕ) → old ++ entries_of n [] ≡ whole → old ≡ whole
unfolding entries_of
all_grouped n old whole so_far = sym (append-nil old) ∙ so_far
