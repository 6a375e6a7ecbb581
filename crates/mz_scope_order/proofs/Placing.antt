-- Places of names, and what rows of nodes hold.
use Rattle.std.proofs.Common.{◌≡◌, ℕ, ◌+◌, ◌<◌, inl, inr, List, [], ◌∷◌, Option, Some, None, cond, length, get_or, refl, ap, sym, ◌∙◌, subst, arith}
use Rattle.std.specs.Prelude.{nat_eq, not}
use Rattle.std.specs.List.{flat_map, position_or_len}
use Rattle.std.proofs.lemmas.List.Quantifiers.{position-Some}
use Rattle.std.specs.Option.{option_map}
use Rattle.std.proofs.lemmas.Bool.{eqb-true, eq-eqb, ne_eqb, lt-ltb}
use Rattle.mz_graph.specs.Graph.{IsIn}
use Rattle.mz_graph.proofs.Membership.{same_or_not, in_front, in_back, in_either}
use Rattle.mz_scope_names.specs.declared.name_use.NameUse.{NameUse}
use Rattle.mz_scope_names.specs.declared.name_use.NameUse.TheVariants.{Mention, Call}
use Rattle.mz_scope_order.specs.Dependencies.{IsUsed}
use Rattle.mz_scope_names.specs.Sets.{place_of}
use Rattle.mz_scope_order.specs.StepsPlaces.{callee, raised_from}

-- what a row has: the raised number of a use that has one
pub record IsFrom (number : NameUse → Option ℕ) (by y : ℕ) (us : List NameUse) : Type 0 where
  pub source : NameUse
  pub used : IsUsed source us
  pub number_of_it : ℕ
  pub has : number source ≡ Some number_of_it
  pub is : y ≡ by + number_of_it

-- one use, and the rest
raised_case : (o : Option ℕ) (by y : ℕ) → IsIn y (raised_from by o) → (k : ℕ) × (o ≡ Some k) × (y ≡ by + k)
raised_case None by y a = absurd a
raised_case (Some k) by y a = elim a [ inl e ↦ (k, refl, e) | inr n ↦ absurd n ]

pub from_row : (number : NameUse → Option ℕ) (by y : ℕ) (us : List NameUse) → IsIn y (flat_map (λ u. raised_from by (number u)) us) → IsFrom number by y us
from_row number by y [] a = absurd a
from_row number by y (u ∷ us) a = elim (in_either y (raised_from by (number u)) (flat_map (λ v. raised_from by (number v)) us) a) [
  | inl b ↦ let r = raised_case (number u) by y b in record { source = u; used = inl refl; number_of_it = r.0; has = r.1; is = r.2 }
  | inr b ↦ let r = from_row number by y us b in record { source = r.source; used = inr r.used; number_of_it = r.number_of_it; has = r.has; is = r.is }
]

pub to_row : (number : NameUse → Option ℕ) (by k : ℕ) (v : NameUse) (us : List NameUse) → IsUsed v us → number v ≡ Some k → IsIn (by + k) (flat_map (λ u. raised_from by (number u)) us)
to_row number by k v [] a e = absurd a
to_row number by k v (u ∷ us) a e = elim a [
  | inl i ↦ in_front (by + k) (raised_from by (number u)) (flat_map (λ w. raised_from by (number w)) us) (subst (λ z. IsIn (by + k) (raised_from by z)) (sym (ap number (sym i) ∙ e)) (inl refl))
  | inr t ↦ in_back (by + k) (raised_from by (number u)) (flat_map (λ w. raised_from by (number w)) us) (to_row number by k v us t e)
]

-- a name of the list has a place in it

before_end : (n : ℕ) (ns : List ℕ) → IsIn n ns → position_or_len (nat_eq n) ns < length ns
before_end n [] a = absurd a
before_end n (m ∷ ms) a = elim (same_or_not n m) [
  | inl e ↦ let s : position_or_len (nat_eq n) (m ∷ ms) ≡ 0 = ap (λ z. cond (not z) (1 + position_or_len (nat_eq n) ms) 0) (eq-eqb n m e) in omega (arith, s)
  | inr o ↦
      let s : position_or_len (nat_eq n) (m ∷ ms) ≡ 1 + position_or_len (nat_eq n) ms = ap (λ z. cond (not z) (1 + position_or_len (nat_eq n) ms) 0) (ne_eqb n m o) in
      let r = before_end n ms (elim a [ inl e ↦ absurd (o e) | inr t ↦ t ]) in
      omega (arith, s, r)
]

pub place_there : (n : ℕ) (ns : List ℕ) → IsIn n ns → place_of n ns ≡ Some (position_or_len (nat_eq n) ns)
place_there n ns a = ap (λ z. cond z (Some (position_or_len (nat_eq n) ns)) None) (lt-ltb (position_or_len (nat_eq n) ns) (length ns) (before_end n ns a))

pub place_within : (n k : ℕ) (ns : List ℕ) → place_of n ns ≡ Some k → k < length ns
place_within n k ns e = (position-Some (nat_eq n) ns k 0 e).0

pub place_holds : (n k : ℕ) (ns : List ℕ) → place_of n ns ≡ Some k → get_or ns k 0 ≡ n
place_holds n k ns e = sym (eqb-true n (get_or ns k 0) (position-Some (nat_eq n) ns k 0 e).1)

one_place : (n m k : ℕ) (ns : List ℕ) → place_of n ns ≡ Some k → place_of m ns ≡ Some k → n ≡ m
one_place n m k ns e f = sym (place_holds n k ns e) ∙ place_holds m k ns f

-- the number of a function with parameters, from its place among their names
later_case : (o : Option ℕ) (by k : ℕ) → option_map (λ z. by + z) o ≡ Some k → (j : ℕ) × (o ≡ Some j) × (k ≡ by + j)
later_case None by k e = absurd (cc)
later_case (Some j) by k e = (j, refl, some_is (by + j) k e)
  where
    some_is : (a b : ℕ) → Some a ≡ Some b → b ≡ a
    some_is a b e = cc

-- two uses of one number are the same use
pub one_callee : (bare applied : List ℕ) (u v : NameUse) (k : ℕ) → callee bare applied u ≡ Some k → callee bare applied v ≡ Some k → u ≡ v
one_callee bare applied (Mention n) (Mention m) k e f = ap (λ z. Mention z) (one_place n m k bare e f)
one_callee bare applied (Mention n) (Call m) k e f =
    let j = later_case (place_of m applied) (length bare) k f in
    let h = place_within n k bare e in
    let i = j.2 in
    absurd (omega (arith, h, i))
one_callee bare applied (Call n) (Mention m) k e f =
    let j = later_case (place_of n applied) (length bare) k e in
    let h = place_within m k bare f in
    let i = j.2 in
    absurd (omega (arith, h, i))
one_callee bare applied (Call n) (Call m) k e f =
    let i = later_case (place_of n applied) (length bare) k e in
    let j = later_case (place_of m applied) (length bare) k f in
    let a = i.2 in
    let b = j.2 in
    let same : i.0 ≡ j.0 = omega (arith, a, b) in
    ap (λ z. Call z) (one_place n m j.0 applied (i.1 ∙ ap (λ z. Some z) same) j.1)

pub callee_within : (bare applied : List ℕ) (u : NameUse) (k : ℕ) → callee bare applied u ≡ Some k → k < length bare + length applied
callee_within bare applied (Mention n) k e = let w = place_within n k bare e in omega (arith, w)
callee_within bare applied (Call n) k e =
    let j = later_case (place_of n applied) (length bare) k e in
    let w = place_within n j.0 applied j.1 in
    let i = j.2 in
    omega (arith, w, i)
