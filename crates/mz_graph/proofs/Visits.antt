-- How far a search is with its nodes, and lists without their last item.
use Rattle.std.proofs.Common.{◌≡◌, ℕ, zero, suc, ◌-◌, ◌+◌, ◌<◌, inl, inr, List, [], ◌∷◌, ap, sym, ◌∙◌, subst, arith, length, get_or, set, take, drop}
use Rattle.std.proofs.lemmas.List.{get_or-set_same, get_or-set_other, length-take-le, get_or-take, length-drop}
use Rattle.std.proofs.lemmas.Grind.{get_or_default_zero}
use Rattle.std.proofs.Math.Seq.{take-length}
use Rattle.mz_graph.specs.Graph.{Graph, Path, arrived, onward}
use Rattle.mz_graph.specs.declared.search.Visit.{Visit}
use Rattle.mz_graph.specs.declared.search.Visit.TheVariants.{Unvisited, OnPath, Numbered}
use Rattle.mz_graph.specs.StepsSearch.{visit_of, at, IsPrefix, StayVisited}
use Rattle.mz_graph.proofs.Membership.{same_or_not, below_or_not}

pub onto : {g : Graph} {x y z : ℕ} → Path g x y → Path g y z → Path g x z
onto arrived q = q
onto (onward e p) q = onward e (onto p q)

pub path_is_visited : (p : ℕ) → OnPath p ≡ Unvisited → ⊥
path_is_visited p e = cc

pub number_is_visited : (c : ℕ) → Numbered c ≡ Unvisited → ⊥
number_is_visited c e = cc

pub path_or_number : (p c : ℕ) → OnPath p ≡ Numbered c → ⊥
path_or_number p c e = cc

pub one_place : (p q : ℕ) → OnPath p ≡ OnPath q → p ≡ q
one_place p q e = cc

pub one_number : (c d : ℕ) → Numbered c ≡ Numbered d → c ≡ d
one_number c d e = cc

pub two_nodes : (vs : List Visit) (x y : ℕ) (a b : Visit) → visit_of vs x ≡ a → visit_of vs y ≡ b → (a ≡ b → ⊥) → x ≡ y → ⊥
two_nodes vs x y a b p q n e = n (sym p ∙ ap (λ z. visit_of vs z) e ∙ q)

pub visit_kept : (vs : List Visit) (x y : ℕ) (v : Visit) → (y ≡ x → ⊥) → visit_of (set vs x v) y ≡ visit_of vs y
visit_kept vs x y v n = get_or-set_other vs x y v Unvisited n

pub visit_now : (vs : List Visit) (x : ℕ) (v : Visit) → x < length vs → visit_of (set vs x v) x ≡ v
visit_now vs x v h = get_or-set_same vs x v Unvisited h

pub visit_read : (vs : List Visit) (x : ℕ) (v : Visit) → x < length vs → v ≡ get_or vs x v → visit_of vs x ≡ v
visit_read [] x v h e = absurd (omega arith)
visit_read (a ∷ vs) zero v h e = sym e
visit_read (a ∷ vs) (suc x) v h e = visit_read vs x v (omega (arith, h)) e

pub stay_visited : (vs : List Visit) (x : ℕ) (v : Visit) → (v ≡ Unvisited → ⊥) → x < length vs → StayVisited vs (set vs x v)
stay_visited vs x v n h y e = elim (same_or_not y x) [
  | inl i ↦ absurd (n (sym (ap (λ z. visit_of (set vs x v) z) i ∙ visit_now vs x v h) ∙ e))
  | inr o ↦ sym (visit_kept vs x y v o) ∙ e
]

front_taken : (xs : List ℕ) → 0 < length xs → IsPrefix (take (length xs - 1) xs) xs
front_taken xs h = record {
  one = let e = length-take-le (length xs - 1) xs (omega arith) in omega (arith, e, h);
  same = λ i l. let e = length-take-le (length xs - 1) xs (omega arith) in get_or-take (length xs - 1) xs i 0 (omega (arith, l, e));
}

pub front : (xs ys : List ℕ) → ys ≡ take (length xs - 1) xs → 0 < length xs → IsPrefix ys xs
front xs ys e h = subst (λ z. IsPrefix z xs) (sym e) (front_taken xs h)

pub tail_slice : (xs ys : List ℕ) (b : ℕ) → ys ≡ xs → take (length ys - b) (drop b ys) ≡ drop b xs
tail_slice xs ys b e =
    let h : length ys - b ≡ length (drop b ys) = sym (length-drop b ys) in
    ap (λ z. take z (drop b ys)) h ∙ take-length (drop b ys) ∙ ap (λ z. drop b z) e

pub last_read : (xs : List ℕ) (n k d : ℕ) → n ≡ length xs → k ≡ n - 1 → 0 < n → get_or xs k d ≡ at xs (length xs - 1)
last_read xs n k d e f h =
    let p : k ≡ length xs - 1 = omega (arith, e, f) in
    ap (λ z. get_or xs z d) p ∙ get_or_default_zero xs (length xs - 1) d (omega (arith, e, h))

-- the nodes before a place are visited, and then the one at it
pub one_more_visited : (old new : List Visit) (x : ℕ) → StayVisited old new → ((y : ℕ) → y < x → visit_of old y ≡ Unvisited → ⊥) → (visit_of new x ≡ Unvisited → ⊥) → (y : ℕ) → y < x + 1 → visit_of new y ≡ Unvisited → ⊥
one_more_visited old new x stay before now y h e = elim (below_or_not y x) [
  | inl k ↦ before y k (stay y e)
  | inr k ↦ now (subst (λ z. visit_of new z ≡ Unvisited) (omega (arith, h, k)) e)
]
