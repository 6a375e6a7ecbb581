-- What is used at a time is at most what is used at the last start before it.
use Rattle.std.proofs.Common.{◌≡◌, ℤ, pos, ◌≤ℤ◌, ◌+ℤ◌, List, [], ◌∷◌, Bool, true, false, ◌&&◌, if◌then◌else◌, int_le, int_lt, refl, sym, ap, subst, ◌∙◌, arith, ◌⊎◌, inl, inr}
use Rattle.std.proofs.lemmas.Int.{ints}
use Rattle.std.specs.List.{list_all}
use Rattle.mz_globals.specs.Lists.{total}
use Rattle.mz_globals.specs.Scheduling.{Task, end_of, runs_at, taken_at, used_at, start_fits, is_cumulative}
use Rattle.mz_globals.specs.Laws.{UseUp, FitsAlways, StartsAreEnough}

-- ---- tests of numbers

differs : {A : Type 0} (b : Bool) → b ≡ true → b ≡ false → A
differs b h k = cc

to_order : (x y : ℤ) → int_le x y ≡ true → x ≤ℤ y
to_order x y h = grind (arith, ints, h)

to_test : (x y : ℤ) → x ≤ℤ y → int_le x y ≡ true
to_test x y h = grind (arith, ints, h)

reversed : (x y : ℤ) → int_le x y ≡ false → y ≤ℤ x
reversed x y h = grind (arith, ints, h)

same_order : (x : ℤ) → x ≤ℤ x
same_order x = grind (arith, ints)

chained : (x y z : ℤ) → x ≤ℤ y → y ≤ℤ z → x ≤ℤ z
chained x y z h k = grind (arith, ints, h, k)

earlier : (s t e : ℤ) → s ≤ℤ t → int_lt t e ≡ true → int_lt s e ≡ true
earlier s t e h k = grind (arith, ints, h, k)

added : (a b c d : ℤ) → a ≤ℤ b → c ≤ℤ d → (a +ℤ c) ≤ℤ (b +ℤ d)
added a b c d h k = grind (arith, ints)

both : (p q : Bool) → (p && q) ≡ true → (p ≡ true) × (q ≡ true)
both true q h = (refl, h)
both false q h = differs false h refl

-- ---- one task: where it has begun at s if it has at t, it takes at t at most what it takes at s

some_or_none : (b : Bool) (n : ℤ) → pos 0 ≤ℤ n → pos 0 ≤ℤ (if b then n else pos 0)
some_or_none true n h = h
some_or_none false n h = same_order (pos 0)

taken_less : (s t : ℤ) (u : Task × ℤ) → s ≤ℤ t → (u.0.0 ≤ℤ t → u.0.0 ≤ℤ s) → pos 0 ≤ℤ u.1 → taken_at t u ≤ℤ taken_at s u
taken_less s t u h begun up = by (int_le u.0.0 t) (int_lt t (end_of u.0)) refl refl
  where
    by : (p q : Bool) → p ≡ int_le u.0.0 t → q ≡ int_lt t (end_of u.0) → (if p && q then u.1 else pos 0) ≤ℤ taken_at s u
    by true true l m = rw (to_test u.0.0 s (begun (to_order u.0.0 t (sym l))), earlier s t (end_of u.0) h (sym m)) (same_order u.1)
    by true false l m = some_or_none (runs_at s u.0) u.1 up
    by false q l m = some_or_none (runs_at s u.0) u.1 up

-- ---- all tasks

-- each that has begun at t has begun at s
abbrev Begun : List (Task × ℤ) → ℤ → ℤ → Type 0
Begun [] t s = Unit {0}
Begun (u ∷ us) t s = (u.0.0 ≤ℤ t → u.0.0 ≤ℤ s) × Begun us t s

used_less : (us : List (Task × ℤ)) (s t : ℤ) → s ≤ℤ t → Begun us t s → UseUp us → used_at us t ≤ℤ used_at us s
used_less [] s t h begun up = same_order (pos 0)
used_less (u ∷ us) s t h begun up = added _ _ _ _ (taken_less s t u h begun.0 up.0) (used_less us s t h begun.1 up.1)

-- none has begun
abbrev NoneBegun : List (Task × ℤ) → ℤ → Type 0
NoneBegun [] t = Unit {0}
NoneBegun (u ∷ us) t = (int_le u.0.0 t ≡ false) × NoneBegun us t

begun_of_none : (us : List (Task × ℤ)) (t s : ℤ) → NoneBegun us t → Begun us t s
begun_of_none [] t s none = tt
begun_of_none (u ∷ us) t s none = (λ h. differs (int_le u.0.0 t) (to_test u.0.0 t h) none.0, begun_of_none us t s none.1)

begun_by_later : (us : List (Task × ℤ)) (t r s : ℤ) → r ≤ℤ s → Begun us t r → Begun us t s
begun_by_later [] t r s h begun = tt
begun_by_later (u ∷ us) t r s h begun = (λ k. chained u.0.0 r s (begun.0 k) h, begun_by_later us t r s h begun.1)

used_of_none : (us : List (Task × ℤ)) (t : ℤ) → NoneBegun us t → used_at us t ≡ pos 0
used_of_none [] t none = refl
used_of_none (u ∷ us) t none = ap (λ b. (if b && int_lt t (end_of u.0) then u.1 else pos 0) +ℤ used_at us t) none.0 ∙ ap (λ n. pos 0 +ℤ n) (used_of_none us t none.1)

-- ---- the last start that isn't after a time

abbrev IsStart : List (Task × ℤ) → ℤ → Type 0
IsStart [] s = ⊥
IsStart (u ∷ us) s = (u.0.0 ≡ s) ⊎ IsStart us s

record LastStart (us : List (Task × ℤ)) (t : ℤ) : Type 0 where
  s : ℤ
  is : IsStart us s
  before : s ≤ℤ t
  begun : Begun us t s

last_start : (us : List (Task × ℤ)) (t : ℤ) → NoneBegun us t ⊎ LastStart us t
last_start [] t = inl tt
last_start (u ∷ us) t = by (int_le u.0.0 t) refl (last_start us t)
  where
    later_of : (l : LastStart us t) → u.0.0 ≤ℤ t → (b : Bool) → b ≡ int_le u.0.0 l.s → LastStart (u ∷ us) t
    later_of l h true e = record { s = l.s; is = inr l.is; before = l.before; begun = (λ _. to_order u.0.0 l.s (sym e), l.begun) }
    later_of l h false e = record { s = u.0.0; is = inl refl; before = h; begun = (λ _. same_order u.0.0, begun_by_later us t l.s u.0.0 (reversed u.0.0 l.s (sym e)) l.begun) }

    by : (b : Bool) → b ≡ int_le u.0.0 t → NoneBegun us t ⊎ LastStart us t → NoneBegun (u ∷ us) t ⊎ LastStart (u ∷ us) t
    by true e (inl none) = inr (record { s = u.0.0; is = inl refl; before = to_order u.0.0 t (sym e); begun = (λ _. same_order u.0.0, begun_of_none us t u.0.0 none) })
    by true e (inr l) = inr (later_of l (to_order u.0.0 t (sym e)) (int_le u.0.0 l.s) refl)
    by false e (inl none) = inl (sym e, none)
    by false e (inr l) = inr (record { s = l.s; is = inr l.is; before = l.before; begun = (λ h. differs (int_le u.0.0 t) (to_test u.0.0 t h) (sym e), l.begun) })

-- ---- the law

fits_at_start : (us all : List (Task × ℤ)) (most s : ℤ) → list_all (start_fits all most) us ≡ true → IsStart us s → used_at all s ≤ℤ most
fits_at_start [] all most s h is = absurd is
fits_at_start (u ∷ us) all most s h (inl e) = subst (λ r. used_at all r ≤ℤ most) e (to_order (used_at all u.0.0) most (both (start_fits all most u) (list_all (start_fits all most) us) h).0)
fits_at_start (u ∷ us) all most s h (inr is) = fits_at_start us all most s (both (start_fits all most u) (list_all (start_fits all most) us) h).1 is

enough : (us : List (Task × ℤ)) (most : ℤ) → UseUp us → is_cumulative us most ≡ true → FitsAlways us most
enough us most up h =
    let tests = both (int_le (pos 0) most) (list_all (start_fits us most) us) h in
    let some = to_order (pos 0) most tests.0 in
    record {
      some = some;
      at = λ t. elim (last_start us t) [
        | inl none ↦ subst (λ n. n ≤ℤ most) (sym (used_of_none us t none)) some
        | inr l ↦ chained (used_at us t) (used_at us l.s) most (used_less us l.s t l.before l.begun up) (fits_at_start us us most l.s tests.1 l.is)
      ];
    }

fits_at_starts : (us all : List (Task × ℤ)) (most : ℤ) → ((t : ℤ) → used_at all t ≤ℤ most) → list_all (start_fits all most) us ≡ true
fits_at_starts [] all most h = refl
fits_at_starts (u ∷ us) all most h = rw (to_test (used_at all u.0.0) most (h u.0.0)) (fits_at_starts us all most h)

pub starts_are_enough : StartsAreEnough
starts_are_enough = record { enough = enough; needed = λ us most f. rw (to_test (pos 0) most f.some) (fits_at_starts us us most f.at) }
