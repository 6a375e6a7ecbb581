-- Names in a set, and in the list that it was made from.
use Rattle.std.proofs.Common.{◌≡◌, ℕ, Bool, true, false, List, [], ◌∷◌, ◌++◌, refl, ap, sym, ◌∙◌}
use Rattle.std.specs.Prelude.{nat_eq, ◌||◌, if◌then◌else◌}
use Rattle.std.proofs.lemmas.Bool.{eqb-true}
use Rattle.mz_scope_names.specs.Sets.{holds, with_name}

or_assoc : (a b c : Bool) → ((a || b) || c) ≡ (a || (b || c))
or_assoc true b c = refl
or_assoc false b c = refl

or_false : (a : Bool) → (a || false) ≡ a
or_false true = refl
or_false false = refl

pub holds_both : (n : ℕ) (xs ys : List ℕ) → holds n (xs ++ ys) ≡ (holds n xs || holds n ys)
holds_both n [] ys = refl
holds_both n (x ∷ xs) ys = ap (λ z. nat_eq n x || z) (holds_both n xs ys) ∙ sym (or_assoc (nat_eq n x) (holds n xs) (holds n ys))

pub holds_more : (n x : ℕ) (xs : List ℕ) → holds n (xs ++ x ∷ []) ≡ (holds n xs || nat_eq n x)
holds_more n x xs = holds_both n xs (x ∷ []) ∙ ap (λ z. holds n xs || z) (or_false (nat_eq n x))

absorbed : (b c : Bool) → (c ≡ true → b ≡ true) → b ≡ (b || c)
absorbed true c f = refl
absorbed false true f = f refl
absorbed false false f = refl

added_case : (b : Bool) (n x : ℕ) (xs : List ℕ) → holds x xs ≡ b → holds n (if b then xs else xs ++ x ∷ []) ≡ (holds n xs || nat_eq n x)
added_case true n x xs e = absorbed (holds n xs) (nat_eq n x) (λ h. ap (λ z. holds z xs) (eqb-true n x h) ∙ e)
added_case false n x xs e = holds_more n x xs

pub holds_added : (n x : ℕ) (xs : List ℕ) → holds n (with_name xs x) ≡ (holds n xs || nat_eq n x)
holds_added n x xs = added_case (holds x xs) n x xs refl

pub set_grows : (set now xs : List ℕ) (x : ℕ) → ((n : ℕ) → holds n set ≡ holds n xs) → now ≡ with_name set x → (n : ℕ) → holds n now ≡ holds n (xs ++ x ∷ [])
set_grows set now xs x e is n =
    ap (λ z. holds n z) is ∙ holds_added n x set ∙ ap (λ z. z || nat_eq n x) (e n) ∙ sym (holds_more n x xs)
