-- Accesses: where they have values, and their parts, all in one arena.
use Rattle.std.proofs.Common.{◌≡◌, ℕ, zero, suc, ◌-◌, ◌<◌, ◌≤◌, ℤ, pos, negsuc, ◌≤ℤ◌, ◌<ℤ◌, List, [], ◌∷◌, length, take, drop, Bool, true, false, ◌&&◌, cond, Option, Some, None, IsSome, option_map, slice_get, ◌⊎◌, inl, inr, refl, sym, ap, subst, ◌∙◌, arith}
use Rattle.std.specs.Option.{option_and_then}
use Rattle.std.proofs.lemmas.Int.{ints}
use Rattle.mz_value.specs.Ranges.{Range}
use Rattle.mz_interval.specs.Ends.{Ends, Encloses}
use Rattle.mz_operations.specs.Bounds.{hull_of_all, union_from, union_of_all}
use Rattle.mz_arena.specs.declared.node.NodeKind.TheVariants.{Access}
use Rattle.mz_arena.specs.Entries.{Entry}
use Rattle.mz_arena.specs.Values.{Val, number, set, numbers, sets, empty, Term, Values, element_at, value_at, access_term}
use Rattle.mz_arena.specs.Terms.{term}
use Rattle.mz_arena.specs.Extents.{Known, whole, truth, subset, wholes, truths, subsets, empty as no_element, as_whole, as_list, not_negative, skipped, reached, element_extent, access_extent, extent}
use Rattle.mz_arena.specs.Arenas.{IsArena}
use Rattle.mz_arena.proofs.Folds.{get-past}
use Rattle.mz_arena.specs.InBounds.{LiesIn, AreInBounds}
use Rattle.mz_partial.specs.declared.part.Part.{Part}
use Rattle.mz_partial.specs.Told.{IsToldDefined}
use Rattle.mz_partial.specs.Totals.{only, Says, Has, Tells, Counts, IsItself, IsPart}
use Rattle.mz_partial.specs.Nodes.{IsNode}
use Rattle.mz_partial.specs.Calls.{is_place, IsNever, HasNoValue}
use Rattle.mz_partial.proofs.Standing.{node_means, node_bounds, node_some, node_total, like_bounds}
use Rattle.mz_partial.proofs.ByKind.{Fits, HasWhole, has_whole, number_in}
use Rattle.mz_partial.proofs.Saying.{fits}
use Rattle.mz_partial.proofs.Partwise.{value_or, plain_part, pair_like}
use Rattle.mz_partial.proofs.Quotients.{guarded_only, two_none, cond_pass, cond_same, number_or, number_same}

-- ---- accesses

access_left : (y : Term) → access_term None y ≡ None
unfolding access_term
access_left y = refl

access_right : (x : Term) → access_term x None ≡ None
unfolding access_term
access_right None = refl
access_right (Some (number n)) = refl
access_right (Some (set s)) = refl
access_right (Some (numbers ns)) = refl
access_right (Some (sets ss)) = refl
access_right (Some empty) = refl

access_at : (i : ℤ) (w : Val) → access_term (Some (number i)) (Some w) ≡ value_at w i
unfolding access_term
access_at i w = refl

place_below : (m k : ℕ) → is_place (pos m) (pos (suc k)) ≡ true → k < m
place_below m k h = grind (arith, ints)

place_past : (m k : ℕ) → is_place (pos m) (pos (suc k)) ≡ false → m ≤ k
place_past m k h = grind (arith, ints)

get_some : {A : Type 0} (xs : List A) (k : ℕ) → k < length xs → IsSome (slice_get xs k)
get_some [] k h = absurd (omega arith)
get_some (x ∷ xs) zero h = refl
get_some (x ∷ xs) (suc k) h = get_some xs k (omega arith)

element_in : {A : Type 0} (xs : List A) (m : ℕ) (i : ℤ) → length xs ≡ m → is_place (pos m) i ≡ true → IsSome (element_at xs i)
element_in xs m (pos zero) c h = absurd (cc)
element_in xs m (negsuc n) c h = absurd (cc)
element_in xs m (pos (suc k)) c h = get_some xs k (omega (arith, c, place_below m k h))

element_out : {A : Type 0} (xs : List A) (m : ℕ) (i : ℤ) → length xs ≡ m → is_place (pos m) i ≡ false → element_at xs i ≡ None
element_out xs m (pos zero) c h = refl
element_out xs m (negsuc n) c h = refl
element_out xs m (pos (suc k)) c h = get-past xs k (omega (arith, c, place_past m k h))

value_out : (w : Val) (m : ℕ) (i : ℤ) → Counts w m → is_place (pos m) i ≡ false → value_at w i ≡ None
value_out (numbers ns) m i c h = ap (λ o. option_map number o) (element_out ns m i c h)
value_out (sets ss) m i c h = ap (λ o. option_map set o) (element_out ss m i c h)
value_out (number n) m i c h = refl
value_out (set s) m i c h = refl
value_out empty m i c h = refl

map_some : {A : Type 0} (f : A → Val) (o : Option A) → IsSome o → IsSome (option_map f o)
map_some f None h = absurd (cc)
map_some f (Some a) h = refl

no_place : (i : ℤ) → is_place (pos 0) i ≡ false
no_place (pos zero) = refl
no_place (pos (suc k)) = grind (arith, ints)
no_place (negsuc n) = refl

is_list : Val → Bool
is_list (number n) = false
is_list (set s) = false
is_list (numbers ns) = true
is_list (sets ss) = true
is_list empty = true

value_there : (w : Val) (m : ℕ) (i : ℤ) → is_list w ≡ true → Counts w m → is_place (pos m) i ≡ true → IsSome (value_at w i)
unfolding is_list
value_there (numbers ns) m i l c h = map_some number (element_at ns i) (element_in ns m i c h)
value_there (sets ss) m i l c h = map_some set (element_at ss i) (element_in ss m i c h)
value_there (number n) m i l c h = absurd (cc)
value_there (set s) m i l c h = absurd (cc)
value_there empty m i l c h = both (is_place (pos m) i) h (ap (λ j. is_place (pos j) i) c ∙ no_place i)
  where
    both : (b : Bool) → b ≡ true → b ≡ false → IsSome (value_at empty i)
    both b x y = absurd (cc)

wholes_list : (es : List Ends) (w : Val) → LiesIn (wholes es) w → is_list w ≡ true
unfolding is_list
wholes_list es (numbers ns) h = refl
wholes_list es (number n) h = absurd h
wholes_list es (set s) h = absurd h
wholes_list es (sets ss) h = refl
wholes_list es empty h = refl

truths_list : (w : Val) → LiesIn truths w → is_list w ≡ true
unfolding is_list
truths_list (numbers ns) h = refl
truths_list (number n) h = absurd h
truths_list (set s) h = absurd h
truths_list (sets ss) h = refl
truths_list empty h = refl

subsets_list : (us : List (List Range)) (w : Val) → LiesIn (subsets us) w → is_list w ≡ true
unfolding is_list
subsets_list us (sets ss) h = refl
subsets_list us (number n) h = absurd h
subsets_list us (set s) h = absurd h
subsets_list us (numbers ns) h = refl
subsets_list us empty h = refl

empty_list : (w : Val) → LiesIn no_element w → is_list w ≡ true
unfolding is_list
empty_list empty h = refl
empty_list (number n) h = absurd h
empty_list (set s) h = absurd h
empty_list (numbers ns) h = refl
empty_list (sets ss) h = refl

list_in : (y : Known) (w : Val) → IsSome (as_list y) → Fits y w → is_list w ≡ true
list_in (Some (wholes es)) w s f = wholes_list es w (f.lies (wholes es) refl)
list_in (Some truths) w s f = truths_list w (f.lies truths refl)
list_in (Some (subsets us)) w s f = subsets_list us w (f.lies (subsets us) refl)
list_in (Some no_element) w s f = empty_list w (f.lies no_element refl)
list_in None w s f = absurd (cc)
list_in (Some (whole e)) w s f = absurd (cc)
list_in (Some (truth e)) w s f = absurd (cc)
list_in (Some (subset u)) w s f = absurd (cc)

access_sorts : (x y : Known) → IsSome (access_extent x y) → IsSome (as_whole x) × IsSome (as_list y)
unfolding access_extent
access_sorts x y h = by (as_whole x) (as_list y) h
  where
    by : (o : Option Ends) (p : Known) → IsSome (option_and_then (λ e. option_and_then (λ b. element_extent e b) p) o) → IsSome o × IsSome p
    by None p h = absurd (cc)
    by (Some e) None h = absurd (cc)
    by (Some e) (Some b) h = (refl, refl)

pub access_index : (x y : Known) → IsSome (access_extent x y) → HasWhole x
access_index x y h = has_whole x (access_sorts x y h).0

abbrev flip : Term → Term → Term
flip y x = access_term x y

pub access_part : (es : List Entry) (id a b : ℕ) (p q : Part) (f : Option ℕ) (w t : ℕ) (spare : ℤ) (e : Ends) → IsArena es → IsNode es id Access (a ∷ b ∷ []) → IsNode es t Access (w ∷ q.term ∷ []) → (hp : IsPart es a p) (hq : IsPart es b q) → extent es a ≡ Some (whole e) → Has es w (Some (whole e)) (λ v. number (cond (is_place (pos q.len) (number_or (hp.value v))) (number_or (hp.value v)) spare)) → is_place (pos q.len) spare ≡ true → Says es f (λ v. (hq.holds v && hp.holds v) && is_place (pos q.len) (number_or (hp.value v))) → (IsToldDefined es id → IsItself id (record { flag = f; term = t; len = 0 })) → IsPart es id (record { flag = f; term = t; len = 0 })
access_part es id a b p q f w t spare e ar n m hp hq whole_a hw pass says own =
    let C : ℤ → Bool = is_place (pos q.len) in
    let M : Values → ℤ = λ v. number_or (hp.value v) in
    let S : Values → ℤ = λ v. cond (C (M v)) (M v) spare in
    let sorts = access_sorts (extent es a) (extent es b) (node_some es id Access (a ∷ b ∷ []) ar n) in
    let value : (v : Values) → AreInBounds es v → term v es t ≡ flip (Some (hq.value v)) (Some (number (S v))) = λ v i.
    node_means es t Access (w ∷ q.term ∷ []) ar m v ∙ ap (λ (x : Term). access_term x (term v es q.term)) (hw.is v i) ∙ ap (access_term (Some (number (S v)))) (hq.kept.is v i) in
    let some : (v : Values) → AreInBounds es v → IsSome (flip (Some (hq.value v)) (Some (number (S v)))) = λ v i.
    subst (λ (x : Term). IsSome x) (sym (access_at (S v) (hq.value v))) (value_there (hq.value v) q.len (S v) (list_in (extent es b) (hq.value v) sorts.1 (fits es b q v ar hq i)) (hq.counts v i) (cond_pass C (M v) spare pass)) in
    plain_part es id Access (a ∷ b ∷ []) f t (λ v. (hq.holds v && hp.holds v) && C (M v)) ar refl refl n says
    (node_total es t Access (w ∷ q.term ∷ []) m (hw.total, (hq.kept.total, tt)) (λ v i. subst (λ (x : Term). IsSome x) (sym (value v i)) (some v i)))
    (like_bounds es id t Access (a ∷ b ∷ []) (w ∷ q.term ∷ []) ar refl n m (pair_like es a b w q.term (hw.bounds ∙ sym whole_a) hq.kept.bounds))
    (λ v i.
    let same = number_same (hp.value v) (number_in (extent es a) (hp.value v) (record { ends = e; is = whole_a }) (fits es a p v ar hp i)) in
    node_means es id Access (a ∷ b ∷ []) ar n v ∙ ap (λ (x : Term). access_term x (term v es b)) (hp.is v i) ∙ ap (access_term (only (hp.holds v) (hp.value v))) (hq.is v i)
    ∙ guarded_only flip (hq.holds v) (hp.holds v) (C (M v)) (hq.value v) (hp.value v) (number (S v)) access_right access_left
    (λ h. ap (λ (x : Val). access_term (Some x) (Some (hq.value v))) same ∙ access_at (M v) (hq.value v) ∙ value_out (hq.value v) q.len (M v) (hq.counts v i) h)
    (λ h. cond_same (C (M v)) (M v) spare (hp.value v) same h)
    (some v i)
    ∙ ap (λ (x : Term). only ((hq.holds v && hp.holds v) && C (M v)) (value_or x)) (sym (value v i)))
    own

-- no place lies in the bounds
abbrev pub HasNoPlace : Ends → ℕ → Type 0
HasNoPlace e n = (e.1 ≤ℤ pos 0) ⊎ ((pos n <ℤ e.0) ⊎ (pos n ≤ℤ pos 0))

abbrev none_of : (A : Type 0) → List A
none_of A = []

take_none : {A : Type 0} (k : ℕ) → take k (none_of A) ≡ []
take_none zero = refl
take_none (suc k) = refl

drop_all : {A : Type 0} (k : ℕ) (xs : List A) → length xs ≤ k → drop k xs ≡ []
drop_all zero [] h = refl
drop_all zero (x ∷ xs) h = absurd (omega (arith, h))
drop_all (suc k) [] h = refl
drop_all (suc k) (x ∷ xs) h = drop_all k xs (omega (arith, h))

negative_end : (h : ℤ) (s : ℕ) → h ≤ℤ pos 0 → not_negative h - s ≡ 0
negative_end (pos n) s h = omega (arith, ints, h)
negative_end (negsuc n) s h = omega arith

past_start : (l : ℤ) (n : ℕ) → pos n <ℤ l → n ≤ not_negative l - 1
past_start (pos m) n h = omega (arith, ints, h)
past_start (negsuc m) n h = absurd (omega (arith, ints, h))

reached_none : {A : Type 0} (e : Ends) (xs : List A) (n : ℕ) → length xs ≡ n → HasNoPlace e n → reached e xs ≡ []
reached_none e xs n c (inl h) = ap (λ k. take k (drop (skipped e) xs)) (negative_end e.1 (skipped e) h)
reached_none e xs n c (inr (inl h)) = ap (take (not_negative e.1 - skipped e)) (drop_all (skipped e) xs (omega (arith, c, past_start e.0 n h))) ∙ take_none _
reached_none e xs n c (inr (inr h)) = ap (take (not_negative e.1 - skipped e)) (drop_all (skipped e) xs (omega (arith, ints, c, h))) ∙ take_none _

outside : (e : Ends) (n : ℕ) (i : ℤ) → HasNoPlace e n → Encloses e i → is_place (pos n) i ≡ false
outside e n i (inl h) g = let l = g.to in grind (arith, ints)
outside e n i (inr (inl h)) g = let l = g.from in grind (arith, ints)
outside e n i (inr (inr h)) g = grind (arith, ints)

never_there : (e : Ends) (y : Known) (n : ℕ) → IsSome (option_and_then (element_extent e) (as_list y)) → Tells y n → HasNoPlace e n → IsNever (option_and_then (element_extent e) (as_list y))
unfolding union_from
never_there e (Some (wholes es)) n s h o = ap hull_of_all (reached_none e es n h o)
never_there e (Some truths) n s h o = refl
never_there e (Some (subsets us)) n s h o = ap union_of_all (reached_none e us n h o)
never_there e (Some no_element) n s h o = refl
never_there e None n s h o = absurd (cc)
never_there e (Some (whole f)) n s h o = absurd (cc)
never_there e (Some (truth f)) n s h o = absurd (cc)
never_there e (Some (subset u)) n s h o = absurd (cc)

access_never : (x y : Known) (e : Ends) (n : ℕ) → x ≡ Some (whole e) → IsSome (access_extent x y) → Tells y n → HasNoPlace e n → IsNever (access_extent x y)
unfolding access_extent
access_never x y e n h s t o = subst (λ (z : Known). IsNever (access_extent z y)) (sym h) (never_there e y n (subst (λ (z : Known). IsSome (access_extent z y)) h s) t o)

pub access_no_value : (es : List Entry) (id a b : ℕ) (p q : Part) (e : Ends) → IsArena es → IsNode es id Access (a ∷ b ∷ []) → IsPart es a p → IsPart es b q → extent es a ≡ Some (whole e) → HasNoPlace e q.len → HasNoValue es id
access_no_value es id a b p q e ar n hp hq whole_a o = record {
  bounds = subst (λ (x : Known). IsNever x) (sym (node_bounds es id Access (a ∷ b ∷ []) ar n)) (access_never (extent es a) (extent es b) e q.len whole_a (node_some es id Access (a ∷ b ∷ []) ar n) hq.told o);
  is = λ v i.
      let fit = fits es a p v ar hp i in
      let w = number_in (extent es a) (hp.value v) (record { ends = e; is = whole_a }) fit in
      let inside : Encloses e w.value = subst (λ (x : Val). LiesIn (whole e) x) w.is (fit.lies (whole e) whole_a) in
      node_means es id Access (a ∷ b ∷ []) ar n v ∙ ap (λ (x : Term). access_term x (term v es b)) (hp.is v i) ∙ ap (access_term (only (hp.holds v) (hp.value v))) (hq.is v i)
      ∙ two_none access_term (hp.holds v) (hq.holds v) (hp.value v) (hq.value v) access_left access_right (ap (λ (x : Val). access_term (Some x) (Some (hq.value v))) w.is ∙ access_at w.value (hq.value v) ∙ value_out (hq.value v) q.len w.value (hq.counts v i) (outside e q.len w.value o inside));
}
