-- The set of some integers.
use Rattle.std.proofs.Common.{◌≡◌, ℕ, zero, suc, ◌<◌, List, [], ◌∷◌, Bool, true, false, ◌&&◌, ◌||◌, eqb, ℤ, ◌↔◌, ◌⊎◌, length, refl, sym, ap, ◌∙◌, inl, inr, arith, rules, tests, get_or, Some}
use Rattle.std.specs.Prelude.{Contains, int_le}
use Rattle.std.specs.List.{list_all}
use Rattle.mz_value.specs.Ranges.{Range, AreCanonical, AreInLimit, Has, IsIn, IsInLimit, IsSetOf, IsDifference, least, greatest}
use Rattle.mz_value.specs.StepsWalks.{common, gaps}
use Rattle.mz_value.proofs.Joined.{union_canonical, union_members, union_limit}
use Rattle.mz_value.proofs.Sets.{makes_difference}
use Rattle.mz_value.proofs.Determined.{determined}
use Rattle.std.proofs.lemmas.Bool.{false≢true, and_parts}
use Rattle.std.proofs.lemmas.Int.{ints}
use Rattle.mz_value.proofs.Comparisons.{int_le_true}
use Rattle.fz_items.specs.Items.{set_of, is_in_limit, listed, has, is_none, is_within}

or_right : (a b : Bool) → b ≡ true → (a || b) ≡ true
or_right true b e = refl
or_right false b e = e

in_limit : (x : ℤ) → is_in_limit x ≡ true → IsInLimit x
in_limit x e = let parts = and_parts (int_le least x) (int_le x greatest) e in search (rules, parts)

pub record IsSound (xs : List ℤ) (s : List Range) : Type 0 where
  pub canonical : AreCanonical s
  pub limits : AreInLimit s
  pub members : (x : ℤ) → Has s x ↔ Contains xs x

-- an element of a list with one more: it, or one of the others
to_list : (x y : ℤ) (xs : List ℤ) → IsIn (x, x) y ⊎ Contains xs y → Contains (x ∷ xs) y
to_list x y xs (inl h) = (0, omega arith, omega (arith, ints))
to_list x y xs (inr k) = (suc k.0, omega arith, k.2)

from_list : (x y : ℤ) (xs : List ℤ) (k : ℕ) → k < length (x ∷ xs) → get_or (x ∷ xs) k y ≡ y → IsIn (x, x) y ⊎ Contains xs y
from_list x y xs zero l e = inl (omega (arith, ints), omega (arith, ints))
from_list x y xs (suc k) l e = inr (k, omega arith, e)

has_one : (x y : ℤ) → Has ((x, x) ∷ []) y → IsIn (x, x) y
has_one x y (inl h) = h
has_one x y (inr h) = absurd h

with_element : (x y : ℤ) (xs : List ℤ) (s : List Range) → Has s y ↔ Contains xs y → Has ((x, x) ∷ []) y ⊎ Has s y → Contains (x ∷ xs) y
with_element x y xs s m (inl h) = to_list x y xs (inl (has_one x y h))
with_element x y xs s m (inr h) = to_list x y xs (inr (m.0 h))

of_element : (x y : ℤ) (xs : List ℤ) (s : List Range) → Has s y ↔ Contains xs y → IsIn (x, x) y ⊎ Contains xs y → Has ((x, x) ∷ []) y ⊎ Has s y
of_element x y xs s m (inl h) = inl (inl h)
of_element x y xs s m (inr h) = inr (m.1 h)

none_of : (y : ℤ) → Contains [] y → ⊥
none_of y h = omega (arith, h.1)

sound : (xs : List ℤ) → list_all is_in_limit xs ≡ true → IsSound xs (set_of xs)
unfolding set_of
sound [] e = record { canonical = tt; limits = tt; members = λ y. (λ h. absurd h, λ h. absurd (none_of y h)) }
sound (x ∷ xs) e =
    let parts = and_parts (is_in_limit x) (list_all is_in_limit xs) e in
    let fits = in_limit x parts.0 in
    let rest = sound xs parts.1 in
    let one : AreCanonical ((x, x) ∷ []) = (omega (arith, ints), tt, tt) in
    let limits : AreInLimit ((x, x) ∷ []) = (fits, fits, tt) in
    record {
      canonical = union_canonical ((x, x) ∷ []) (set_of xs) one limits rest.canonical rest.limits;
      limits = union_limit ((x, x) ∷ []) (set_of xs) limits rest.limits;
      members = λ y.
          let u = union_members ((x, x) ∷ []) (set_of xs) one limits rest.canonical rest.limits y in
          (λ h. with_element x y xs (set_of xs) (rest.members y) (u.0 h), λ h. u.1 (of_element x y xs (set_of xs) (rest.members y) (from_list x y xs h.0 h.1 h.2)));
    }

pub is_set_of : (xs : List ℤ) (s : List Range) → list_all is_in_limit xs ≡ true → IsSetOf xs s → AreCanonical s → s ≡ set_of xs
is_set_of xs s e members canonical =
    let t = sound xs e in
    determined s (set_of xs) canonical t.canonical (λ x. (λ h. (t.members x).1 ((members x).0 h), λ h. (members x).1 ((t.members x).0 h)))

pub listed_is : (xs : List ℤ) (s : List Range) → list_all is_in_limit xs ≡ true → IsSetOf xs s → AreCanonical s → listed xs ≡ Some s
listed_is xs s e members canonical = rw e (ap Some (sym (is_set_of xs s e members canonical)))

-- a number of a set

has_true : (s : List Range) (x : ℤ) → Has s x → has s x ≡ true
has_true [] x h = absurd h
has_true (r ∷ rs) x (inl h) = rw (int_le_true r.0 x h.0, int_le_true x r.1 h.1) refl
has_true (r ∷ rs) x (inr h) = or_right (int_le r.0 x && int_le x r.1) (has rs x) (has_true rs x h)

one_or_more : (r : Range) (rs : List Range) (x : ℤ) (t : Bool) → (int_le r.0 x && int_le x r.1) ≡ t → (has rs x ≡ true → Has rs x) → (t || has rs x) ≡ true → Has (r ∷ rs) x
one_or_more r rs x true is rest e = let parts = and_parts (int_le r.0 x) (int_le x r.1) is in inl (search (rules, parts))
one_or_more r rs x false is rest e = inr (rest e)

true_has : (s : List Range) (x : ℤ) → has s x ≡ true → Has s x
true_has [] x e = absurd (false≢true e)
true_has (r ∷ rs) x e = one_or_more r rs x (int_le r.0 x && int_le x r.1) refl (true_has rs x) e

pub has_is : (b : Bool) (s : List Range) (x : ℤ) → (b ≡ true → Has s x) → (Has s x → b ≡ true) → b ≡ has s x
has_is b s x sure back = by b (has s x) (λ e. has_true s x (sure e)) (λ e. back (true_has s x e))
  where
    by : (a c : Bool) → (a ≡ true → c ≡ true) → (c ≡ true → a ≡ true) → a ≡ c
    by true c f g = sym (f refl)
    by false true f g = g refl
    by false false f g = refl

-- a difference is nothing exactly where the set is within
pub difference_is : (s domain lacking : List Range) → AreCanonical s × AreInLimit s → AreCanonical domain × AreInLimit domain → IsDifference s domain lacking → AreCanonical lacking → lacking ≡ common s (gaps least domain)
difference_is s domain lacking sound_s sound_d members canonical =
    let m = makes_difference s domain (common s (gaps least domain)) sound_s sound_d refl in
    determined lacking (common s (gaps least domain)) canonical m.1 (λ x. (λ h. (m.0 x).1 ((members x).0 h), λ h. (members x).1 ((m.0 x).0 h)))

false_suc : (n : ℕ) → eqb (suc n) 0 ≡ false
false_suc n = search (rules, tests)

none_is : (s : List Range) → eqb (length s) 0 ≡ is_none s
none_is [] = refl
none_is (r ∷ rs) = false_suc (length rs)

pub within_is : (s domain lacking : List Range) → AreCanonical s × AreInLimit s → AreCanonical domain × AreInLimit domain → IsDifference s domain lacking → AreCanonical lacking → eqb (length lacking) 0 ≡ is_within s domain
unfolding is_within
within_is s domain lacking sound_s sound_d members canonical = none_is lacking ∙ ap is_none (difference_is s domain lacking sound_s sound_d members canonical)
