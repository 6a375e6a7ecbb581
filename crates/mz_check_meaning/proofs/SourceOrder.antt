-- Source order of declarations is an order: of two that neither comes before the other the slots are equal.
use Rattle.std.proofs.Common.{◌≡◌, ◌∙◌, ℕ, suc, zero, ◌<◌, ◌≤◌, ◌⊎◌, inl, inr, Bool, true, false, List, [], ◌∷◌, length, get_or, refl, sym, arith}
use Rattle.std.specs.Prelude.{nat_eq, nat_lt, ◌&&◌, ◌||◌}
use Rattle.std.proofs.lemmas.Bool.{ltb-false, le-ltb, eqb-true, eq-eqb}
use Rattle.mz_core.specs.Tree.{Decl}
use Rattle.mz_check_meaning.specs.Checks.{comes_before, NoneComesBefore, StandInSourceOrder}

second_false : (a b : Bool) → (a && b) ≡ false → a ≡ true → b ≡ false
second_false true b e h = e
second_false false b e h = absurd (cc)

-- none of three tests holds, each where those before it leave it open
abbrev NoneHolds : Bool → Bool → Bool → Bool → Bool → Type 0
NoneHolds p q r t u = (p ≡ false) × (q ≡ true → (r ≡ false) × (t ≡ true → u ≡ false))

none_of_three : (p q r t u : Bool) → ((p || (q && r)) || ((q && t) && u)) ≡ false → NoneHolds p q r t u
none_of_three true q r t u e = absurd (cc)
none_of_three false true true t u e = absurd (cc)
none_of_three false true false t u e = (refl, λ h. (refl, second_false t u e))
none_of_three false false r t u e = (refl, λ h. absurd (cc))

and_false : (a b : Bool) → (a ≡ true → b ≡ false) → (a && b) ≡ false
and_false true b h = h refl
and_false false b h = refl

three_false : (p q r t u : Bool) → NoneHolds p q r t u → ((p || (q && r)) || ((q && t) && u)) ≡ false
three_false true q r t u h = let none = h.0 in absurd (cc)
three_false false true true t u h = let none = (h.1 refl).0 in absurd (cc)
three_false false true false t u h = and_false t u (h.1 refl).1
three_false false false r t u h = refl

-- of two numbers the first is less, or they are equal and this holds
abbrev pub IsUpTo : ℕ → ℕ → Type 0 → Type 0
IsUpTo a b P = (a < b) ⊎ ((a ≡ b) × P)

up_to_case : (a b : ℕ) (t : Bool) (P : Type 0) → nat_eq b a ≡ t → a ≤ b → (nat_eq b a ≡ true → P) → IsUpTo a b P
up_to_case a b true P e h go = inr (sym (eqb-true b a e), go e)
up_to_case a b false P e h go = inl (less (λ i. let t = eq-eqb b a i in absurd (cc)))
  where
    less : (b ≡ a → ⊥) → a < b
    less other = omega (arith, h, other)

up_to : (a b : ℕ) (P : Type 0) → nat_lt b a ≡ false → (nat_eq b a ≡ true → P) → IsUpTo a b P
up_to a b P h go = up_to_case a b (nat_eq b a) P refl (ltb-false b a h) go

not_less : (a b : ℕ) (P : Type 0) → IsUpTo a b P → nat_lt b a ≡ false
not_less a b P (inl below) = le-ltb b a (omega (arith, below))
not_less a b P (inr same) = let e = same.0 in le-ltb b a (omega (arith, e))

where_same : (a b : ℕ) (P : Type 0) → IsUpTo a b P → nat_eq b a ≡ true → P
where_same a b P (inl below) is = let e = eqb-true b a is in absurd (omega (arith, below, e))
where_same a b P (inr same) is = same.1

onward : (a b c : ℕ) (P Q R : Type 0) → (P → Q → R) → IsUpTo a b P → IsUpTo b c Q → IsUpTo a c R
onward a b c P Q R go (inl p) (inl q) = inl (omega (arith, p, q))
onward a b c P Q R go (inl p) (inr q) = let e = q.0 in inl (omega (arith, p, e))
onward a b c P Q R go (inr p) (inl q) = let e = p.0 in inl (omega (arith, e, q))
onward a b c P Q R go (inr p) (inr q) = inr (p.0 ∙ q.0, go p.1 q.1)

both_ways : (a b : ℕ) (P Q : Type 0) → IsUpTo a b P → IsUpTo b a Q → P × Q
both_ways a b P Q (inl p) (inl q) = absurd (omega (arith, p, q))
both_ways a b P Q (inl p) (inr q) = let e = q.0 in absurd (omega (arith, p, e))
both_ways a b P Q (inr p) (inl q) = let e = p.0 in absurd (omega (arith, e, q))
both_ways a b P Q (inr p) (inr q) = (p.1, q.1)

-- ---- the second doesn't come before the first

abbrev pub InPlace : Decl → Decl → Type 0
InPlace d e = IsUpTo d.span.byte e.span.byte (d.slot ≤ e.slot)

abbrev pub IsFirst : Decl → Decl → Type 0
IsFirst d e = IsUpTo d.span.file e.span.file (InPlace d e)

pub is_first : (d e : Decl) → comes_before e d ≡ false → IsFirst d e
is_first d e h =
    let parts = none_of_three (nat_lt e.span.file d.span.file) (nat_eq e.span.file d.span.file) (nat_lt e.span.byte d.span.byte) (nat_eq e.span.byte d.span.byte) (nat_lt e.slot d.slot) h in
    up_to d.span.file e.span.file (InPlace d e) parts.0 (λ same. up_to d.span.byte e.span.byte (d.slot ≤ e.slot) (parts.1 same).0 (λ too. ltb-false e.slot d.slot ((parts.1 same).1 too)))

pub not_before : (d e : Decl) → IsFirst d e → comes_before e d ≡ false
not_before d e h =
    three_false (nat_lt e.span.file d.span.file) (nat_eq e.span.file d.span.file) (nat_lt e.span.byte d.span.byte) (nat_eq e.span.byte d.span.byte) (nat_lt e.slot d.slot) (
      not_less d.span.file e.span.file (InPlace d e) h,
      λ same.
          let here = where_same d.span.file e.span.file (InPlace d e) h same in
          (not_less d.span.byte e.span.byte (d.slot ≤ e.slot) here, λ too. le-ltb e.slot d.slot (where_same d.span.byte e.span.byte (d.slot ≤ e.slot) here too)),
    )

pub far_first : (d e f : Decl) → IsFirst d e → IsFirst e f → IsFirst d f
far_first d e f h k =
    onward d.span.file e.span.file f.span.file (InPlace d e) (InPlace e f) (InPlace d f)
    (λ p q. onward d.span.byte e.span.byte f.span.byte (d.slot ≤ e.slot) (e.slot ≤ f.slot) (d.slot ≤ f.slot) (λ m n. omega (arith, m, n)) p q) h k

pub itself : (d : Decl) → IsFirst d d
itself d = inr (refl, inr (refl, omega arith))

pub same_slot : (d e : Decl) → comes_before d e ≡ false → comes_before e d ≡ false → d.slot ≡ e.slot
same_slot d e h k =
    let places = both_ways d.span.file e.span.file (InPlace d e) (InPlace e d) (is_first d e k) (is_first e d h) in
    let slots = both_ways d.span.byte e.span.byte (d.slot ≤ e.slot) (e.slot ≤ d.slot) places.0 places.1 in
    omega (arith, slots.0, slots.1)

-- ---- in source order none comes before one that stands before it

none_later : (d : Decl) (es : List Decl) → NoneComesBefore d es → (j : ℕ) (e : Decl) → j < length es → comes_before (get_or es j e) d ≡ false
none_later d [] h j e low = absurd (omega (arith, low))
none_later d (x ∷ es) h zero e low = h.0
none_later d (x ∷ es) h (suc j) e low = none_later d es h.1 j e (omega (arith, low))

pub later : (es : List Decl) → StandInSourceOrder es → (i j : ℕ) (d : Decl) → i < j → j < length es → comes_before (get_or es j d) (get_or es i d) ≡ false
later [] h i j d p q = absurd (omega (arith, q))
later (x ∷ es) h i zero d p q = absurd (omega (arith, p))
later (x ∷ es) h zero (suc j) d p q = none_later x es h.0 j d (omega (arith, q))
later (x ∷ es) h (suc i) (suc j) d p q = later es h.1 i j d (omega (arith, p)) (omega (arith, q))
