-- Declarations in source order, and their places by slots.
use Rattle.std.proofs.Common.{◌≡◌, ◌∙◌, ℕ, suc, ◌+◌, ◌<◌, Bool, true, false, cond, List, [], ◌∷◌, Option, Some, map, length, get_or, set, refl, ap, sym, subst, arith}
use Rattle.std.specs.Prelude.{nat_eq, nat_lt, ◌&&◌, ◌||◌, slice_get, IsPermutation}
use Rattle.std.specs.Ordering.{nat_cmp, ordering_then, is_lt}
use Rattle.std.specs.List.Sorted.{IsSortedByKey}
use Rattle.std.specs.declared.cmp.Ordering.TheVariants.{Less, Equal, Greater}
use Rattle.std.proofs.lemmas.Bool.{eqb-true, eq-eqb}
use Rattle.std.proofs.lemmas.List.{length-map, same_lists, get_or-map, get_or_default, length-set, get_or-set_other}
use Rattle.std.proofs.lemmas.List.Elements.{Contains-get_or}
use Rattle.std.proofs.lemmas.Option.{slice_get-get_or}
use Rattle.std.proofs.lemmas.Grind.{get_or-set_at}
use Rattle.std.proofs.lemmas.List.Sorted.{IsPermutation-sym, Contains-permutation, length_permutation}
use Rattle.mz_core.specs.Tree.{Decl}
use Rattle.mz_check_meaning.specs.Checks.{comes_before, decl_in, NoneComesBefore, StandInSourceOrder}
use Rattle.mz_check_meaning.proofs.SourceOrder.{IsFirst, is_first, not_before, far_first, itself}
use Rattle.mz_check.specs.StepsPlacing.{HasSlot, HoldPlaces, ArePlaces}
use Rattle.mz_check_data.specs.WithData.{AreNumbered}

-- ---- the order of places

by_three : (p q r t u v : Bool)
    → is_lt (ordering_then (ordering_then (cond p Less (cond q Equal Greater)) (cond r Less (cond t Equal Greater))) (cond u Less (cond v Equal Greater))) ≡ ((p || (q && r)) || ((q && t) && u))
by_three true q r t u v = refl
by_three false true true t u v = refl
by_three false true false true true v = refl
by_three false true false true false true = refl
by_three false true false true false false = refl
by_three false true false false u v = refl
by_three false false r t u v = refl

key_order : (d e : Decl) → is_lt (ordering_then (ordering_then (nat_cmp d.span.file e.span.file) (nat_cmp d.span.byte e.span.byte)) (nat_cmp d.slot e.slot)) ≡ comes_before d e
key_order d e = by_three (nat_lt d.span.file e.span.file) (nat_eq d.span.file e.span.file) (nat_lt d.span.byte e.span.byte) (nat_eq d.span.byte e.span.byte) (nat_lt d.slot e.slot) (nat_eq d.slot e.slot)

-- none comes before the one before it
abbrev pub Rise : List Decl → Type 0
Rise ds = (k : ℕ) (d : Decl) → k + 1 < length ds → comes_before (get_or ds (k + 1) d) (get_or ds k d) ≡ false

rest_rises : (d : Decl) (ds : List Decl) → Rise (d ∷ ds) → Rise ds
rest_rises d ds h k e low =
    let later : suc k + 1 ≡ suc (k + 1) = omega arith in
    subst (λ (n : ℕ). comes_before (get_or (d ∷ ds) n e) (get_or ds k e) ≡ false) later (h (suc k) e (omega (arith, low)))

none_after : (d e : Decl) (ds : List Decl) → IsFirst d e → Rise (e ∷ ds) → NoneComesBefore d ds
none_after d e [] h r = tt
none_after d e (f ∷ ds) h r =
    let next = far_first d e f h (is_first e f (r 0 d (omega arith))) in
    (not_before d f next, none_after d f ds next (rest_rises e (f ∷ ds) r))

pub in_order : (ds : List Decl) → Rise ds → StandInSourceOrder ds
in_order [] r = tt
in_order (d ∷ ds) r = (none_after d d ds (itself d) r, in_order ds (rest_rises d ds r))

-- what is sorted by file, place and slot rises
pub rises : {A : Type 0} (see : A → Decl) (xs : List A)
    → IsSortedByKey {K = ℕ × ℕ × ℕ} (λ x. ((see x).span.file, (see x).span.byte, (see x).slot)) (λ p q. ordering_then (ordering_then (nat_cmp p.0 q.0) (nat_cmp p.1 q.1)) (nat_cmp p.2 q.2)) xs → Rise (map see xs)
rises see [] h k d low = absurd (omega (arith, low))
rises see (x ∷ xs) h k d low =
    let l = length-map (x ∷ xs) see in
    let next = get_or-map see (x ∷ xs) (k + 1) x d (omega (arith, low, l)) in
    let this = get_or-map see (x ∷ xs) k x d (omega (arith, low, l)) in
    ap (λ (e : Decl). comes_before e (get_or (map see (x ∷ xs)) k d)) next
    ∙ ap (λ (e : Decl). comes_before (see (get_or (x ∷ xs) (k + 1) x)) e) this
    ∙ sym (key_order (see (get_or (x ∷ xs) (k + 1) x)) (see (get_or (x ∷ xs) k x)))
    ∙ h k x (omega arith) (omega (arith, low, l))

-- ---- places by slots

kept_place : (ds : List Decl) (k slot at : ℕ) → HasSlot ds k slot at → HasSlot ds (k + 1) slot at
kept_place ds k slot at h = record { within = let w = h.within in omega (arith, w); is = h.is }

-- one more place is written
pub one_placed : (ds : List Decl) (k : ℕ) (places more : List ℕ) (d : Decl) → HoldPlaces ds k places → k < length ds → ((e : Decl) → get_or ds k e ≡ d) → more ≡ set places d.slot k → HoldPlaces ds (k + 1) more
one_placed ds k places more d h low is written = record {
  sized = ap (λ (xs : List ℕ). length xs) written ∙ length-set places d.slot k ∙ h.sized;
  held = λ slot at small has. subst (λ (xs : List ℕ). HasSlot ds (k + 1) slot (get_or xs slot 0)) (sym written) (held_case slot at small has (nat_eq d.slot slot) refl);
}
  where
    held_case : (slot at : ℕ) → slot < length ds → HasSlot ds (k + 1) slot at → (t : Bool) → nat_eq d.slot slot ≡ t → HasSlot ds (k + 1) slot (get_or (set places d.slot k) slot 0)
    held_case slot at small has true e =
        let same = eqb-true d.slot slot e in
        let s = h.sized in
        subst (λ (p : ℕ). HasSlot ds (k + 1) slot p)
        (sym (get_or-set_at places d.slot slot k 0 (sym same) (omega (arith, small, same, s))))
        (record { within = omega arith; is = λ f. ap (λ (g : Decl). g.slot) (is f) ∙ same })
    held_case slot at small has false e =
        let other : d.slot ≡ slot → ⊥ = λ i. let t = eq-eqb d.slot slot i in absurd (cc) in
        let w = has.within in
        let not_last : at ≡ k → ⊥ = λ i. other (sym (ap (λ (g : Decl). g.slot) (is d)) ∙ ap (λ (n : ℕ). (get_or ds n d).slot) (sym i) ∙ has.is d) in
        subst (λ (p : ℕ). HasSlot ds (k + 1) slot p)
        (sym (get_or-set_other places d.slot slot k 0 (λ i. other (sym i))))
        (kept_place ds k slot (get_or places slot 0) (h.held slot at small (record { within = omega (arith, w, not_last); is = has.is })))

pub none_placed : (ds : List Decl) (places : List ℕ) → length places ≡ length ds → HoldPlaces ds 0 places
none_placed ds places e = record { sized = e; held = λ slot at small has. let w = has.within in absurd (omega (arith, w)) }

pub next_placed : {A : Type 0} (see : A → Decl) (xs : List A) (k : ℕ) (x : A) (places more : List ℕ) (slot : ℕ) → HoldPlaces (map see xs) k places → k < length xs → x ≡ get_or xs k x → slot ≡ (see x).slot → more ≡ set places slot k → HoldPlaces (map see xs) (k + 1) more
next_placed see xs k x places more slot h low is s w =
    one_placed (map see xs) k places more (see x) h (let l = length-map xs see in omega (arith, low, l)) (λ e. get_or-map see xs k x e low ∙ ap see (sym is)) (w ∙ ap (λ (n : ℕ). set places n k) s)

pub all_placed : (ds : List Decl) (k : ℕ) (places : List ℕ) → HoldPlaces ds k places → k ≡ length ds → ArePlaces ds places
all_placed ds k places h e = subst (λ (n : ℕ). HoldPlaces ds n places) e h

-- each declaration is found at the place of its slot
found_one : (es ds : List Decl) (places : List ℕ) (k : ℕ) (d : Decl) → IsPermutation es ds → AreNumbered es → ArePlaces ds places → k < length es → slice_get ds (get_or places k 0) ≡ Some (get_or es k d)
found_one es ds places k d p n a low =
    let same_long = length_permutation es ds p in
    let there = Contains-permutation es ds (get_or es k d) p (Contains-get_or es k d low) in
    let slot_there : (e : Decl) → (get_or ds there.0 e).slot ≡ k = λ e. ap (λ (g : Decl). g.slot) (get_or_default ds there.0 e (get_or es k d) there.1 ∙ there.2) ∙ n k d low in
    let at = a.held k there.0 (omega (arith, low, same_long)) (record { within = there.1; is = slot_there }) in
    let back = Contains-permutation ds es (get_or ds (get_or places k 0) d) (IsPermutation-sym es ds p) (Contains-get_or ds (get_or places k 0) d at.within) in
    let number : back.0 ≡ k = sym (n back.0 (get_or ds (get_or places k 0) d) back.1) ∙ ap (λ (g : Decl). g.slot) back.2 ∙ at.is d in
    let is : get_or ds (get_or places k 0) d ≡ get_or es k d =
    sym back.2 ∙ sym (get_or_default es back.0 d (get_or ds (get_or places k 0) d) back.1) ∙ ap (λ (i : ℕ). get_or es i d) number in
    slice_get-get_or ds (get_or places k 0) d at.within ∙ ap (λ (g : Decl). Some g) is

found_at : (es ds : List Decl) (places : List ℕ) (k : ℕ) (d : Decl) (o : Option Decl) → IsPermutation es ds → AreNumbered es → ArePlaces ds places → k < length es → get_or (decl_in ds places) k o ≡ get_or (map (λ (e : Decl). Some e) es) k o
found_at es ds places k d o p n a low =
    let same_long = length_permutation es ds p in
    let s = a.sized in
    get_or-map (slice_get ds) places k 0 o (omega (arith, low, s, same_long))
    ∙ found_one es ds places k d p n a low
    ∙ sym (get_or-map (λ (e : Decl). Some e) es k d o low)

pub found_all : (es ds : List Decl) (places : List ℕ) → IsPermutation es ds → AreNumbered es → ArePlaces ds places → decl_in ds places ≡ map (λ (d : Decl). Some d) es
found_all [] ds places p n a =
    let same_long = length_permutation [] ds p in
    let s = a.sized in
    nothing_in places (s ∙ same_long)
  where
    nothing_in : (xs : List ℕ) → length xs ≡ 0 → decl_in ds xs ≡ []
    nothing_in [] e = refl
    nothing_in (x ∷ xs) e = absurd (omega (arith, e))
found_all (e ∷ es) ds places p n a =
    let same_long = length_permutation (e ∷ es) ds p in
    let s = a.sized in
    let l = length-map places (slice_get ds) in
    let r = length-map (e ∷ es) (λ (d : Decl). Some d) in
    same_lists (decl_in ds places) (map (λ (d : Decl). Some d) (e ∷ es)) (l ∙ s ∙ same_long ∙ sym r)
    (λ k o low. found_at (e ∷ es) ds places k e o p n a (omega (arith, low, l, s, same_long)))
