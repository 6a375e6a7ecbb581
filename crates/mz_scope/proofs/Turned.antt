-- Things in order of evaluation: each of them once.
use Rattle.std.proofs.Common.{◌≡◌, ℕ, ◌+◌, ◌<◌, ◌≤◌, inl, inr, Bool, true, false, List, [], ◌∷◌, ◌++◌, refl, ap, sym, subst, map, length, get_or, arith}
use Rattle.std.specs.Prelude.{nat_eq, All}
use Rattle.std.proofs.lemmas.Bool.{eqb-true, eq-eqb, ne_eqb}
use Rattle.std.proofs.lemmas.List.Elements.{All-nil, All-cons}
use Rattle.mz_graph.specs.Graph.{IsIn}
use Rattle.mz_graph.specs.Order.{IsOrder, IsComplete}
use Rattle.mz_graph.proofs.Membership.{below_or_not, in_front, in_last}
use Rattle.mz_scope_order.proofs.Apart.{AreTurns, turns}
use Rattle.mz_scope.proofs.Counting.{one_if, count, counted_at, at_counted, one_place}

abbrev AreApart : (ℕ → ℕ) → ℕ → Type 0
AreApart f till = (d e : ℕ) → d < till → e < till → f d ≡ f e → d ≡ e

none_again : (f : ℕ → ℕ) (till : ℕ) (done order : List ℕ) → AreApart f till → (d : ℕ) → d < till → IsIn d done → AreTurns till done order → count (f d) (map f order) ≡ 0
none_again f till done [] one d l a t = refl
none_again f till done (x ∷ xs) one d l a t =
    let r = none_again f till (done ++ x ∷ []) xs one d l (in_front d done (x ∷ []) a) t.2 in
    let o : one_if (nat_eq (f d) (f x)) ≡ 0 = ap (λ z. one_if z) (ne_eqb (f d) (f x) (λ e. t.1 (subst (λ z. IsIn z done) (one d x l t.0 e) a))) in
    omega (arith, r, o)

once_case : (b : Bool) (f : ℕ → ℕ) (till : ℕ) (done : List ℕ) (x : ℕ) (xs : List ℕ) (n : ℕ) → AreApart f till → nat_eq n (f x) ≡ b → AreTurns till done (x ∷ xs) → (AreTurns till (done ++ x ∷ []) xs → count n (map f xs) ≤ 1) → count n (map f (x ∷ xs)) ≤ 1
once_case true f till done x xs n one e t g =
    let a = none_again f till (done ++ x ∷ []) xs one x t.0 (in_last x done) t.2 in
    let c : count n (map f xs) ≡ count (f x) (map f xs) = ap (λ z. count z (map f xs)) (eqb-true n (f x) e) in
    let o : one_if (nat_eq n (f x)) ≡ 1 = ap (λ z. one_if z) e in
    omega (arith, a, c, o)
once_case false f till done x xs n one e t g =
    let o : one_if (nat_eq n (f x)) ≡ 0 = ap (λ z. one_if z) e in
    let r = g t.2 in
    omega (arith, r, o)

once : (f : ℕ → ℕ) (till : ℕ) (done order : List ℕ) (n : ℕ) → AreApart f till → AreTurns till done order → count n (map f order) ≤ 1
once f till done [] n one t = omega arith
once f till done (x ∷ xs) n one t = once_case (nat_eq n (f x)) f till done x xs n one refl t (λ u. once f till (done ++ x ∷ []) xs n one u)

-- a number of which this is the name
record IsOf (f : ℕ → ℕ) (till n : ℕ) : Type 0 where
  pub number : ℕ
  pub counted : number < till
  pub is : f number ≡ n

of_case : (b : Bool) (f : ℕ → ℕ) (till : ℕ) (x : ℕ) (xs : List ℕ) (n : ℕ) → nat_eq n (f x) ≡ b → x < till → 1 ≤ one_if b + count n (map f xs) → (1 ≤ count n (map f xs) → IsOf f till n) → IsOf f till n
of_case true f till x xs n e h l g = record { number = x; counted = h; is = sym (eqb-true n (f x) e) }
of_case false f till x xs n e h l g = g (omega (arith, l))

found : (f : ℕ → ℕ) (till : ℕ) (done order : List ℕ) (n : ℕ) → AreTurns till done order → 1 ≤ count n (map f order) → IsOf f till n
found f till done [] n t l = absurd (omega (arith, l))
found f till done (x ∷ xs) n t l = of_case (nat_eq n (f x)) f till x xs n refl t.0 l (λ k. found f till (done ++ x ∷ []) xs n t.2 k)

pub turned_most : {R : ℕ → ℕ → Type 0} (ns order : List ℕ) → IsOrder R (length ns) order → ((n : ℕ) → count n ns ≤ 1) → (n : ℕ) → count n (map (λ d. get_or ns d 0) order) ≤ count n ns
turned_most ns order o h n =
    let t = turns [] order o in
    elim (below_or_not (count n (map (λ d. get_or ns d 0) order)) 1) [
      | inl l ↦ omega (arith, l)
      | inr l ↦
          let w = found (λ d. get_or ns d 0) (length ns) [] order n t l in
          let c = at_counted ns w.number w.counted in
          let i : count (get_or ns w.number 0) ns ≡ count n ns = ap (λ z. count z ns) w.is in
          let m = once (λ d. get_or ns d 0) (length ns) [] order n (λ d e j k q. one_place ns d e h j k q) t in
          omega (arith, c, i, m)
    ]

mapped_in : (f : ℕ → ℕ) (d : ℕ) (order : List ℕ) → IsIn d order → 1 ≤ count (f d) (map f order)
mapped_in f d [] a = absurd a
mapped_in f d (x ∷ xs) a = elim a [
  | inl e ↦ let o : one_if (nat_eq (f d) (f x)) ≡ 1 = ap (λ z. one_if z) (eq-eqb (f d) (f x) (ap f e)) in omega (arith, o)
  | inr t ↦ let r = mapped_in f d xs t in omega (arith, r)
]

pub turned_there : (ns order : List ℕ) (n : ℕ) → IsComplete (length ns) order → 1 ≤ count n ns → 1 ≤ count n (map (λ d. get_or ns d 0) order)
turned_there ns order n whole l =
    let p = counted_at n ns l in
    let r = mapped_in (λ d. get_or ns d 0) p.place order (whole p.place p.within) in
    let i : count (get_or ns p.place 0) (map (λ d. get_or ns d 0) order) ≡ count n (map (λ d. get_or ns d 0) order) = ap (λ z. count z (map (λ d. get_or ns d 0) order)) p.is in
    omega (arith, r, i)

-- all numbers are counted

turns_counted : (till : ℕ) (done order : List ℕ) → AreTurns till done order → All (λ k. k < till) order
turns_counted till done [] t = All-nil (λ k. k < till)
turns_counted till done (x ∷ xs) t = All-cons (λ k. k < till) x xs t.0 (turns_counted till (done ++ x ∷ []) xs t.2)

pub all_counted : {R : ℕ → ℕ → Type 0} (till : ℕ) (order : List ℕ) → IsOrder R till order → All (λ k. k < till) order
all_counted till order o = turns_counted till [] order (turns [] order o)
