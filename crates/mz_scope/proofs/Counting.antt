-- How often a name stands in a list.
use Rattle.std.proofs.Common.{◌≡◌, ℕ, zero, suc, ◌+◌, ◌<◌, ◌≤◌, Bool, true, false, List, [], ◌∷◌, ◌++◌, refl, ap, sym, ◌∙◌, map, length, get_or, arith}
use Rattle.std.specs.Prelude.{◌||◌, nat_eq}
use Rattle.std.specs.List.{flat_map}
use Rattle.std.proofs.lemmas.Bool.{eqb-true, eq-eqb}
use Rattle.std.proofs.lemmas.List.{map-append}
use Rattle.std.proofs.lemmas.Grind.{flat_map-append}
use Rattle.mz_scope_names.specs.Sets.{holds}
use Rattle.mz_scope_order.specs.Scoped.{AreDistinct}

abbrev pub one_if : Bool → ℕ
one_if true = 1
one_if false = 0

abbrev pub count : ℕ → List ℕ → ℕ
count n [] = 0
count n (m ∷ ms) = one_if (nat_eq n m) + count n ms

abbrev pub total : {X : Type 0} → (X → ℕ) → List X → ℕ
total f [] = 0
total f (x ∷ xs) = f x + total f xs

pub counted_both : (n : ℕ) (xs ys : List ℕ) → count n (xs ++ ys) ≡ count n xs + count n ys
counted_both n [] ys = omega arith
counted_both n (x ∷ xs) ys = let r = counted_both n xs ys in omega (arith, r)

pub counted_flat : {X : Type 0} (n : ℕ) (f : X → List ℕ) (xs : List X) → count n (flat_map f xs) ≡ total (λ x. count n (f x)) xs
counted_flat n f [] = refl
counted_flat n f (x ∷ xs) = let a = counted_both n (f x) (flat_map f xs) in let r = counted_flat n f xs in omega (arith, a, r)

pub total_sum : {X : Type 0} (f g : X → ℕ) (xs : List X) → total (λ x. f x + g x) xs ≡ total f xs + total g xs
total_sum f g [] = refl
total_sum f g (x ∷ xs) = let r = total_sum f g xs in omega (arith, r)

pub total_same : {X : Type 0} (f g : X → ℕ) (xs : List X) → ((x : X) → f x ≡ g x) → total f xs ≡ total g xs
total_same f g [] e = refl
total_same f g (x ∷ xs) e = let a = e x in let r = total_same f g xs e in omega (arith, a, r)

pub total_most : {X : Type 0} (f g : X → ℕ) (xs : List X) → ((x : X) → f x ≤ g x) → total f xs ≤ total g xs
total_most f g [] e = omega arith
total_most f g (x ∷ xs) e = let a = e x in let r = total_most f g xs e in omega (arith, a, r)

pub one_here : (n : ℕ) (ns : List ℕ) → count n (n ∷ ns) ≡ 1 + count n ns
one_here n ns = ap (λ z. one_if z + count n ns) (eq-eqb n n refl)

-- to stand there not at all, and at least once

none_case : (b h : Bool) (c : ℕ) → (b || h) ≡ false → (h ≡ false → c ≡ 0) → one_if b + c ≡ 0
none_case true h c e f = absurd (cc)
none_case false h c e f = let r = f e in omega (arith, r)

pub none_counted : (n : ℕ) (ns : List ℕ) → holds n ns ≡ false → count n ns ≡ 0
none_counted n [] e = refl
none_counted n (m ∷ ms) e = none_case (nat_eq n m) (holds n ms) (count n ms) e (λ f. none_counted n ms f)

some_case : (b h : Bool) (c : ℕ) → (b || h) ≡ true → (h ≡ true → 1 ≤ c) → 1 ≤ one_if b + c
some_case true h c e f = omega arith
some_case false h c e f = let r = f e in omega (arith, r)

pub some_counted : (n : ℕ) (ns : List ℕ) → holds n ns ≡ true → 1 ≤ count n ns
some_counted n [] e = absurd (cc)
some_counted n (m ∷ ms) e = some_case (nat_eq n m) (holds n ms) (count n ms) e (λ f. some_counted n ms f)

none_held_case : (b h : Bool) (c : ℕ) → one_if b + c ≡ 0 → (c ≡ 0 → h ≡ false) → (b || h) ≡ false
none_held_case true h c e f = absurd (omega (arith, e))
none_held_case false h c e f = f (omega (arith, e))

pub none_held : (n : ℕ) (ns : List ℕ) → count n ns ≡ 0 → holds n ns ≡ false
none_held n [] e = refl
none_held n (m ∷ ms) e = none_held_case (nat_eq n m) (holds n ms) (count n ms) e (λ f. none_held n ms f)

some_held_case : (b h : Bool) (c : ℕ) → 1 ≤ one_if b + c → (1 ≤ c → h ≡ true) → (b || h) ≡ true
some_held_case true h c e f = refl
some_held_case false h c e f = f (omega (arith, e))

pub some_held : (n : ℕ) (ns : List ℕ) → 1 ≤ count n ns → holds n ns ≡ true
some_held n [] e = absurd (omega (arith, e))
some_held n (m ∷ ms) e = some_held_case (nat_eq n m) (holds n ms) (count n ms) e (λ f. some_held n ms f)

-- a name that stands in a list has a place there
pub record IsAt (n : ℕ) (ns : List ℕ) : Type 0 where
  pub place : ℕ
  pub within : place < length ns
  pub is : get_or ns place 0 ≡ n

at_case : (b : Bool) (n m : ℕ) (ms : List ℕ) → nat_eq n m ≡ b → 1 ≤ one_if b + count n ms → (1 ≤ count n ms → IsAt n ms) → IsAt n (m ∷ ms)
at_case true n m ms e l f = record { place = 0; within = omega arith; is = sym (eqb-true n m e) }
at_case false n m ms e l f = let r = f (omega (arith, l)) in record { place = suc r.place; within = (let w = r.within in omega (arith, w)); is = r.is }

pub counted_at : (n : ℕ) (ns : List ℕ) → 1 ≤ count n ns → IsAt n ns
counted_at n [] l = absurd (omega (arith, l))
counted_at n (m ∷ ms) l = at_case (nat_eq n m) n m ms refl l (λ k. counted_at n ms k)

pub at_counted : (ns : List ℕ) (k : ℕ) → k < length ns → 1 ≤ count (get_or ns k 0) ns
at_counted [] k l = absurd (omega (arith, l))
at_counted (m ∷ ms) zero l = let b = one_here m ms in omega (arith, b)
at_counted (m ∷ ms) (suc k) l = let r = at_counted ms k (omega (arith, l)) in omega (arith, r)

-- names that stand at most once are distinct, and each has one place

pub distinct_once : (ns : List ℕ) → ((n : ℕ) → count n ns ≤ 1) → AreDistinct ns
distinct_once [] h = tt
distinct_once (m ∷ ms) h = (none_held m ms (let a = h m in let b = one_here m ms in omega (arith, a, b)), distinct_once ms (λ n. let a = h n in omega (arith, a)))

pub one_place : (ns : List ℕ) (d e : ℕ) → ((n : ℕ) → count n ns ≤ 1) → d < length ns → e < length ns → get_or ns d 0 ≡ get_or ns e 0 → d ≡ e
one_place [] d e h l k q = absurd (omega (arith, l))
one_place (m ∷ ms) zero zero h l k q = refl
one_place (m ∷ ms) zero (suc e) h l k q =
    let a = h m in let b = one_here m ms in let c = at_counted ms e (omega (arith, k)) in let i : count m ms ≡ count (get_or ms e 0) ms = ap (λ z. count z ms) q in
    absurd (omega (arith, a, b, c, i))
one_place (m ∷ ms) (suc d) zero h l k q =
    let a = h m in let b = one_here m ms in let c = at_counted ms d (omega (arith, l)) in let i : count (get_or ms d 0) ms ≡ count m ms = ap (λ z. count z ms) q in
    absurd (omega (arith, a, b, c, i))
one_place (m ∷ ms) (suc d) (suc e) h l k q = ap suc (one_place ms d e (λ n. let a = h n in omega (arith, a)) (omega (arith, l)) (omega (arith, k)) q)

-- lists of lists

pub mapped_flat : {X Y Z : Type 0} (g : Y → Z) (f : X → List Y) (xs : List X) → map g (flat_map f xs) ≡ flat_map (λ x. map g (f x)) xs
mapped_flat g f [] = refl
mapped_flat g f (x ∷ xs) = map-append g (f x) (flat_map f xs) ∙ ap (λ z. map g (f x) ++ z) (mapped_flat g f xs)

pub flat_flat : {X Y Z : Type 0} (g : Y → List Z) (f : X → List Y) (xs : List X) → flat_map g (flat_map f xs) ≡ flat_map (λ x. flat_map g (f x)) xs
flat_flat g f [] = refl
flat_flat g f (x ∷ xs) = flat_map-append g (f x) (flat_map f xs) ∙ ap (λ z. flat_map g (f x) ++ z) (flat_flat g f xs)
