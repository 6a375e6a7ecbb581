-- Sets of numbers.
use Rattle.std.proofs.Common.{◌≡◌, ◌∙◌, List, [], ◌∷◌, ◌++◌, map, Bool, true, false, ◌&&◌, refl, sym, ap, subst, arith, inl, inr, ⊎_elim}
use Rattle.std.proofs.lemmas.List.Elements.{All-same, All-weaker, filter_passes, filter-append, Contains-push, Contains-push_cases, Contains-append_left, Contains-append_right, Contains-append_cases}
use Rattle.std.specs.Prelude.{ℤ, pos, ◌-ℤ◌, ◌+ℤ◌, ◌≤ℤ◌, ◌<ℤ◌, ◌⊎◌, int_le, Option, Some, None, filter, Contains, All, Result, Ok, Err, IfOk}
use Rattle.std.specs.Option.{option_and_then, option_map}
use Rattle.std.specs.Int.{int_max, int_min}
use Rattle.std.proofs.lemmas.Int.{ints, clamps, by_lt_z}
use Rattle.mz_value.specs.Ranges.{Range, AreCanonical, AreInLimit, IsInLimit, IsSetOf, Has, range_of, least, greatest}
use Rattle.mz_value.specs.Contents.{Content}
use Rattle.mz_value.specs.Contents as values
use Rattle.mz_value.proofs.Determined.{determined}
use Rattle.mz_value.proofs.Comparisons.{int_le_true, int_le_false}
use Rattle.mz_value.proofs.Walking.{range_of_some, range_of_none}
use Rattle.mz_interval.specs.Ends.{is_number}
use Rattle.mz_core.specs.Types.{PlainType}
use Rattle.mz_operations.specs.Sets.{union, intersection, complement, missing_from, overlap}
use Rattle.mz_operations.specs.Laws.{IsSet}
use Rattle.mz_operations.proofs.SetMembers.{union_set, union_members, union_is}
use Rattle.mz_meaning.specs.Cells.{Cell, par_value_of, Par}
use Rattle.mz_meaning.specs.Coerced.{enum_in}
use Rattle.mz_meaning.specs.Arrays.{number_in, with_number, set_from, set_cell}
use Rattle.mz_eval_arrays.specs.StepsJoining.{values_from, numbers_in, unions}

-- ---- the definition, number by number

never : (vs : List (Option Content)) → set_from None vs ≡ None
never [] = refl
never (None ∷ vs) = never vs
never (Some x ∷ vs) = never vs

with_one : (s : List Range) (v : Option Content) → with_number (Some s) v ≡ option_map (λ n. union s (range_of n n)) (option_and_then number_in v)
with_one s None = refl
with_one s (Some x) = refl

unions_more : (s : List Range) (acc : List ℤ) (n : ℤ) → unions s (acc ++ n ∷ []) ≡ union (unions s acc) (range_of n n)
unfolding unions
unions_more s [] n = refl
unions_more s (m ∷ acc) n = unions_more (union s (range_of m m)) acc n

one_number : (acc : List ℤ) (o : Option ℤ) (vs : List (Option Content)) (ns : List (Option ℤ)) → ((more : List ℤ) → set_from (Some (unions [] more)) vs ≡ option_map (unions []) (values_from more ns)) → set_from (option_map (λ n. union (unions [] acc) (range_of n n)) o) vs ≡ option_map (unions []) (values_from acc (o ∷ ns))
unfolding values_from
one_number acc None vs ns go = never vs
one_number acc (Some n) vs ns go = ap (λ s. set_from (Some s) vs) (sym (unions_more [] acc n)) ∙ go (acc ++ n ∷ [])

all_numbers : (cs : List Cell) (acc : List ℤ) → set_from (Some (unions [] acc)) (map par_value_of cs) ≡ option_map (unions []) (values_from acc (numbers_in cs))
unfolding values_from
all_numbers [] acc = refl
all_numbers (c ∷ cs) acc =
    ap (λ s. set_from s (map par_value_of cs)) (with_one (unions [] acc) (par_value_of c))
    ∙ one_number acc (option_and_then number_in (par_value_of c)) (map par_value_of cs) (numbers_in cs) (all_numbers cs)

no_unions : unions [] [] ≡ []
unfolding unions
no_unions = refl

pub by_numbers : (t : PlainType) (cs : List Cell) → set_cell t cs ≡ Par (option_map (values.set (enum_in t.base)) (option_map (unions []) (values_from [] (numbers_in cs))))
by_numbers t cs =
    ap (λ s. Par (option_map (values.set (enum_in t.base)) (set_from (Some s) (map par_value_of cs)))) (sym no_unions)
    ∙ ap (λ o. Par (option_map (values.set (enum_in t.base)) o)) (all_numbers cs [])

-- ---- a number outside the limit adds nothing

abbrev LiesWithin : List Range → Type 0
LiesWithin [] = Unit {0}
LiesWithin (r ∷ rs) = (least ≤ℤ r.0) × (r.1 ≤ℤ greatest) × LiesWithin rs

one_within : (lo hi : ℤ) (rs : List Range) → least ≤ℤ lo → hi ≤ℤ greatest → LiesWithin rs → LiesWithin (range_of lo hi ++ rs)
one_within lo hi rs l h w = by_lt_z hi lo (λ e. rw (range_of_none lo hi e) w) (λ e. rw (range_of_some lo hi e) (l, h, w))

missing_within : (lo : ℤ) (rs : List Range) → least ≤ℤ lo → AreInLimit rs → LiesWithin (missing_from lo rs)
unfolding missing_from
missing_within lo [] l a = by_lt_z greatest lo (λ e. rw (range_of_none lo greatest e) tt) (λ e. rw (range_of_some lo greatest e) (l, omega (arith, ints), tt))
missing_within lo (r ∷ rs) l a =
    one_within lo (r.0 -ℤ pos 1) (missing_from (r.1 +ℤ pos 1) rs) l (omega (arith, ints)) (missing_within (r.1 +ℤ pos 1) rs (omega (arith, ints)) a.2)

-- what a range of the limit has in common with a range that is as wide
same_overlap : (r : Range) (lo hi : ℤ) → least ≤ℤ r.0 → r.1 ≤ℤ greatest → lo ≤ℤ least → greatest ≤ℤ hi → overlap r (lo, hi) ≡ overlap r (least, greatest)
same_overlap r lo hi a b c d =
    let low : int_max r.0 lo ≡ int_max r.0 least = omega (arith, ints, clamps) in
    let high : int_min r.1 hi ≡ int_min r.1 greatest = omega (arith, ints, clamps) in
    ap (λ x. range_of x (int_min r.1 hi)) low ∙ ap (range_of (int_max r.0 least)) high

same_common : (rs : List Range) (lo hi : ℤ) → LiesWithin rs → lo ≤ℤ least → greatest ≤ℤ hi → intersection rs ((lo, hi) ∷ []) ≡ intersection rs ((least, greatest) ∷ [])
unfolding intersection
same_common [] lo hi w c d = refl
same_common (r ∷ rs) lo hi w c d =
    ap (λ o. (o ++ []) ++ intersection rs ((lo, hi) ∷ [])) (same_overlap r lo hi w.0 w.1 c d) ∙ ap (λ t. (overlap r (least, greatest) ++ []) ++ t) (same_common rs lo hi w.2 c d)

nothing_missing : complement [] ≡ (least, greatest) ∷ []
unfolding complement missing_from
nothing_missing = range_of_some least greatest (omega (arith, ints))

one_missing : (n : ℤ) → complement ((n, n) ∷ []) ≡ range_of least (n -ℤ pos 1) ++ range_of (n +ℤ pos 1) greatest
unfolding complement missing_from
one_missing n = refl

above_missing : (n : ℤ) → greatest <ℤ n → complement (range_of n n) ≡ (least, n -ℤ pos 1) ∷ []
above_missing n l =
    let here : range_of n n ≡ (n, n) ∷ [] = range_of_some n n (omega (arith, ints)) in
    let low : range_of least (n -ℤ pos 1) ≡ (least, n -ℤ pos 1) ∷ [] = range_of_some least (n -ℤ pos 1) (omega (arith, ints)) in
    let high : range_of (n +ℤ pos 1) greatest ≡ [] = range_of_none (n +ℤ pos 1) greatest (omega (arith, ints)) in
    ap complement here ∙ one_missing n ∙ ap (λ t. t ++ range_of (n +ℤ pos 1) greatest) low ∙ ap (λ t. (least, n -ℤ pos 1) ∷ t) high

below_missing : (n : ℤ) → n <ℤ least → complement (range_of n n) ≡ (n +ℤ pos 1, greatest) ∷ []
below_missing n l =
    let here : range_of n n ≡ (n, n) ∷ [] = range_of_some n n (omega (arith, ints)) in
    let low : range_of least (n -ℤ pos 1) ≡ [] = range_of_none least (n -ℤ pos 1) (omega (arith, ints)) in
    let high : range_of (n +ℤ pos 1) greatest ≡ (n +ℤ pos 1, greatest) ∷ [] = range_of_some (n +ℤ pos 1) greatest (omega (arith, ints)) in
    ap complement here ∙ one_missing n ∙ ap (λ t. t ++ range_of (n +ℤ pos 1) greatest) low ∙ high

-- what isn't missing from a set that is as wide as the limit
union_wide : (s b : List Range) (lo hi : ℤ) → AreInLimit s → lo ≤ℤ least → greatest ≤ℤ hi → complement b ≡ (lo, hi) ∷ [] → union s b ≡ union s []
unfolding union complement missing_from
union_wide s b lo hi a c d e =
    let wide : intersection (complement s) (complement b) ≡ intersection (complement s) ((least, greatest) ∷ []) = ap (intersection (complement s)) e ∙ same_common (complement s) lo hi (all_missing s a) c d in
    ap complement (wide ∙ ap (intersection (complement s)) (sym nothing_missing))
  where
    all_missing : (s : List Range) → AreInLimit s → LiesWithin (complement s)
    all_missing s a = missing_within least s (omega (arith, ints)) a

union_nothing : (s : List Range) → IsSet s → union s [] ≡ s
union_nothing s p = sym (union_is s [] s p (tt, tt) (λ x. (λ h. inl h, λ h. ⊎_elim (λ k. k) (λ k. absurd k) h)) p.0)

union_outside : (s : List Range) (n : ℤ) → IsSet s → is_number n ≡ false → union s (range_of n n) ≡ s
union_outside s n p e =
    by_lt_z n least
    (λ l. union_wide s (range_of n n) (n +ℤ pos 1) greatest p.1 (omega (arith, ints)) (omega (arith, ints)) (below_missing n l) ∙ union_nothing s p)
    (λ l. by_lt_z greatest n
    (λ g. union_wide s (range_of n n) least (n -ℤ pos 1) p.1 (omega (arith, ints)) (omega (arith, ints)) (above_missing n g) ∙ union_nothing s p)
    (λ g. absurd (let low = int_le_true least n l in let high = int_le_true n greatest g in let in_limit : is_number n ≡ true = ap (λ t. t && int_le n greatest) low ∙ high in cc)))

-- ---- one number more

and_false : (a : Bool) → (a && false) ≡ false
and_false true = refl
and_false false = refl

inside : (n : ℤ) → is_number n ≡ true → IsInLimit n
inside n e = (
  by_lt_z n least
      (λ l. absurd (let f = int_le_false least n l in let no : is_number n ≡ false = ap (λ t. t && int_le n greatest) f in cc))
      (λ l. l),
  by_lt_z greatest n
      (λ g. absurd (let f = int_le_false n greatest g in let no : is_number n ≡ false = ap (λ t. int_le least n && t) f ∙ and_false (int_le least n) in cc))
      (λ g. g),
)

number_set : (n : ℤ) → is_number n ≡ true → IsSet (range_of n n)
number_set n e = rw (range_of_some n n (omega (arith, ints))) ((omega (arith, ints), tt, tt), (inside n e, inside n e, tt))

none_contained : (ns : List ℤ) (x : ℤ) → ns ≡ [] → Contains ns x → ⊥
none_contained [] x e c = let l = c.1 in omega arith
none_contained (n ∷ ns) x e c = cc

same_number : (n x : ℤ) → Has ((n, n) ∷ []) x → n ≡ x
same_number n x (inl p) = omega (arith, ints)
same_number n x (inr h) = absurd h

has_number : (n x : ℤ) → n ≡ x → Has ((n, n) ∷ []) x
has_number n x e = inl (omega (arith, ints), omega (arith, ints))

has_contained : (n x : ℤ) → Has (range_of n n) x → Contains (n ∷ []) x
has_contained n x h = subst (λ y. Contains (n ∷ []) y) (same_number n x (rw (range_of_some n n (omega (arith, ints))) at h)) (Contains-push [] n)

contained_has : (n x : ℤ) → Contains (n ∷ []) x → Has (range_of n n) x
contained_has n x c =
    let e = ⊎_elim (λ k. absurd (none_contained [] x refl k)) (λ k. k) (Contains-push_cases [] n x c) in
    rw (range_of_some n n (omega (arith, ints))) (has_number n x e)

-- a set with the numbers of another and these
pub record Adds (s : List Range) (ns : List ℤ) (t : List Range) : Type 0 where
  pub set : IsSet t
  pub from : (x : ℤ) → Has t x → Has s x ⊎ Contains ns x
  pub to : (x : ℤ) → Has s x ⊎ Contains ns x → Has t x

adds_nothing : (s : List Range) → IsSet s → Adds s [] s
adds_nothing s p = record { set = p; from = λ x h. inl h; to = λ x h. ⊎_elim (λ k. k) (λ k. absurd (none_contained [] x refl k)) h }

adds_one : (s : List Range) (n : ℤ) → IsSet s → is_number n ≡ true → Adds s (n ∷ []) (union s (range_of n n))
adds_one s n p e =
    let q = number_set n e in
    record {
      set = union_set s (range_of n n) p q;
      from = λ x h. ⊎_elim (λ k. inl k) (λ k. inr (has_contained n x k)) ((union_members s (range_of n n) p q x).0 h);
      to = λ x h. (union_members s (range_of n n) p q x).1 (⊎_elim (λ k. inl k) (λ k. inr (contained_has n x k)) h);
    }

adds_kept : (s : List Range) (n : ℤ) → IsSet s → Adds s (filter is_number (n ∷ [])) (union s (range_of n n))
adds_kept s n p = by (is_number n) refl
  where
    by : (t : Bool) → is_number n ≡ t → Adds s (filter is_number (n ∷ [])) (union s (range_of n n))
    by true e = rw e (adds_one s n p e)
    by false e = rw (e, union_outside s n p e) (adds_nothing s p)

adds_both : (s t u : List Range) (ms ns : List ℤ) → Adds s ms t → Adds t ns u → Adds s (ms ++ ns) u
adds_both s t u ms ns a b =
    record {
      set = b.set;
      from = λ x h. ⊎_elim (λ k. ⊎_elim (λ l. inl l) (λ l. inr (Contains-append_left ms ns x l)) (a.from x k)) (λ k. inr (Contains-append_right ms ns x k)) (b.from x h);
      to = λ x h. b.to x (⊎_elim (λ k. inl (a.to x (inl k))) (λ k. ⊎_elim (λ l. inl (a.to x (inr l))) (λ l. inr l) (Contains-append_cases ms ns x k)) h);
    }

adds_all : (ns : List ℤ) (s : List Range) → IsSet s → Adds s (filter is_number ns) (unions s ns)
unfolding unions
adds_all [] s p = adds_nothing s p
adds_all (n ∷ ns) s p =
    let a = adds_kept s n p in
    let whole = adds_both s (union s (range_of n n)) (unions (union s (range_of n n)) ns) (filter is_number (n ∷ [])) (filter is_number ns) a (adds_all ns (union s (range_of n n)) a.set) in
    subst (λ ms. Adds s ms (unions (union s (range_of n n)) ns)) (sym (filter-append is_number (n ∷ []) ns)) whole

unions_are : (ns : List ℤ) (t : List Range) → IsSetOf (filter is_number ns) t → AreCanonical t → t ≡ unions [] ns
unions_are ns t m c =
    let a = adds_all ns [] (tt, tt) in
    determined t (unions [] ns) c a.set.0 (λ x. (λ h. a.to x (inr ((m x).0 h)), λ h. (m x).1 (⊎_elim (λ k. absurd k) (λ k. k) (a.from x h))))

pub if_unions : {E : Type 0} (r : Result (List Range) E) (ns ms : List ℤ) → ms ≡ filter is_number ns → IfOk r (IsSetOf ms) → IfOk r AreCanonical → IfOk r (λ s. s ≡ unions [] ns)
if_unions (Err e) ns ms k m c = tt
if_unions (Ok t) ns ms k m c = unions_are ns t (subst (λ xs. IsSetOf xs t) k m) c

pub limit_kept : (ns ms : List ℤ) → ms ≡ filter is_number ns → All IsInLimit ms
limit_kept ns ms k = All-same IsInLimit ms (filter is_number ns) k (All-weaker (λ x. is_number x ≡ true) IsInLimit inside (filter is_number ns) (filter_passes is_number ns))
