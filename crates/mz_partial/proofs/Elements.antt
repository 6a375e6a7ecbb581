-- Lists: where the least and the greatest of them have values, and the parts of both, all in one arena.
use Rattle.std.proofs.Common.{◌≡◌, ℕ, ◌+◌, ◌<◌, ℤ, List, [], ◌∷◌, length, Bool, true, false, ◌&&◌, cond, Option, Some, None, IsSome, option_map, refl, sym, ap, subst, ◌∙◌, arith}
use Rattle.std.specs.Option.{option_and_then}
use Rattle.mz_value.specs.Ranges.{Range}
use Rattle.mz_interval.specs.Ends.{Ends}
use Rattle.mz_operations.specs.declared.row.Side.{Side}
use Rattle.mz_operations.specs.declared.row.Side.TheVariants.{Least, Greatest}
use Rattle.mz_operations.specs.Bounds as bounds
use Rattle.mz_operations.specs.Bounds.{arith_ends, extreme_ends, hull_of_all, union_from, union_of_all}
use Rattle.mz_arena.specs.declared.node.NodeKind.{NodeKind}
use Rattle.mz_arena.specs.declared.node.NodeKind.TheVariants.{Min, Max, Cons}
use Rattle.mz_arena.specs.Entries.{Entry}
use Rattle.mz_arena.specs.Values.{Val, number, set, numbers, sets, empty, Term, Values, as_numbers, as_sets, extreme_value, extreme_term, before, cons_term}
use Rattle.mz_arena.specs.Terms.{kind_term, term}
use Rattle.mz_arena.specs.Extents.{Known, whole, truth, subset, wholes, truths, subsets, empty as no_element, as_wholes, is_truths, as_subsets, extreme_extent, cons_extent, extent}
use Rattle.mz_arena.specs.Arenas.{IsArena}
use Rattle.mz_arena.specs.InBounds.{LiesIn, AreInBounds}
use Rattle.mz_partial.specs.declared.part.Part.{Part}
use Rattle.mz_partial.specs.declared.group.Group.TheVariants as group
use Rattle.mz_partial.specs.Groups.{group_of, is_inner}
use Rattle.mz_partial.specs.Totals.{only, Says, Tells, Counts, IsOpen, IsPart}
use Rattle.mz_partial.specs.Nodes.{IsNode}
use Rattle.mz_partial.specs.Calls.{IsNever, HasNoValue}
use Rattle.mz_partial.proofs.Standing.{node_means, node_bounds, node_some, node_total, like_bounds}
use Rattle.mz_partial.proofs.ByKind.{Fits, whole_val, truth_val, subset_val, is_cons}
use Rattle.mz_partial.proofs.Saying.{fits}
use Rattle.mz_partial.proofs.Told.{kid_told, cons_elements}
use Rattle.mz_partial.proofs.Partwise.{value_or, some_or, two_only, strict_one_part, pair_like}

-- ---- values of lists

record IsNumbersVal (w : Val) (m : ℕ) : Type 0 where
  value : List ℤ
  is : as_numbers (Some w) ≡ Some value
  len : length value ≡ m

record IsSetsVal (w : Val) (m : ℕ) : Type 0 where
  value : List (List Range)
  is : as_sets (Some w) ≡ Some value
  len : length value ≡ m

numbers_in : (es : List Ends) (w : Val) (m : ℕ) → LiesIn (wholes es) w → Counts w m → IsNumbersVal w m
numbers_in es (numbers ns) m h c = record { value = ns; is = refl; len = c }
numbers_in es (number n) m h c = absurd h
numbers_in es (set s) m h c = absurd h
numbers_in es (sets ss) m h c = absurd h
numbers_in es empty m h c = absurd h

bits_in : (w : Val) (m : ℕ) → LiesIn truths w → Counts w m → IsNumbersVal w m
bits_in (numbers ns) m h c = record { value = ns; is = refl; len = c }
bits_in (number n) m h c = absurd h
bits_in (set s) m h c = absurd h
bits_in (sets ss) m h c = absurd h
bits_in empty m h c = absurd h

sets_in : (us : List (List Range)) (w : Val) (m : ℕ) → LiesIn (subsets us) w → Counts w m → IsSetsVal w m
sets_in us (sets ss) m h c = record { value = ss; is = refl; len = c }
sets_in us (number n) m h c = absurd h
sets_in us (set s) m h c = absurd h
sets_in us (numbers ns) m h c = absurd h
sets_in us empty m h c = absurd h

no_numbers : (w : Val) (m : ℕ) → LiesIn no_element w → Counts w m → IsNumbersVal w m
no_numbers empty m h c = record { value = []; is = refl; len = sym c }
no_numbers (number n) m h c = absurd h
no_numbers (set s) m h c = absurd h
no_numbers (numbers ns) m h c = absurd h
no_numbers (sets ss) m h c = absurd h

no_sets : (w : Val) (m : ℕ) → LiesIn no_element w → Counts w m → IsSetsVal w m
no_sets empty m h c = record { value = []; is = refl; len = sym c }
no_sets (number n) m h c = absurd h
no_sets (set s) m h c = absurd h
no_sets (numbers ns) m h c = absurd h
no_sets (sets ss) m h c = absurd h

list_numbers : (y : Known) (w : Val) (m : ℕ) → IsSome (as_wholes y) → Fits y w → Counts w m → IsNumbersVal w m
list_numbers (Some (wholes es)) w m s f c = numbers_in es w m (f.lies (wholes es) refl) c
list_numbers (Some no_element) w m s f c = no_numbers w m (f.lies no_element refl) c
list_numbers None w m s f c = absurd (cc)
list_numbers (Some (whole e)) w m s f c = absurd (cc)
list_numbers (Some (truth e)) w m s f c = absurd (cc)
list_numbers (Some (subset u)) w m s f c = absurd (cc)
list_numbers (Some truths) w m s f c = absurd (cc)
list_numbers (Some (subsets us)) w m s f c = absurd (cc)

list_bits : (y : Known) (w : Val) (m : ℕ) → is_truths y ≡ true → Fits y w → Counts w m → IsNumbersVal w m
list_bits (Some truths) w m s f c = bits_in w m (f.lies truths refl) c
list_bits (Some no_element) w m s f c = no_numbers w m (f.lies no_element refl) c
list_bits None w m s f c = absurd (cc)
list_bits (Some (whole e)) w m s f c = absurd (cc)
list_bits (Some (truth e)) w m s f c = absurd (cc)
list_bits (Some (subset u)) w m s f c = absurd (cc)
list_bits (Some (wholes es)) w m s f c = absurd (cc)
list_bits (Some (subsets us)) w m s f c = absurd (cc)

list_sets : (y : Known) (w : Val) (m : ℕ) → IsSome (as_subsets y) → Fits y w → Counts w m → IsSetsVal w m
list_sets (Some (subsets us)) w m s f c = sets_in us w m (f.lies (subsets us) refl) c
list_sets (Some no_element) w m s f c = no_sets w m (f.lies no_element refl) c
list_sets None w m s f c = absurd (cc)
list_sets (Some (whole e)) w m s f c = absurd (cc)
list_sets (Some (truth e)) w m s f c = absurd (cc)
list_sets (Some (subset u)) w m s f c = absurd (cc)
list_sets (Some (wholes es)) w m s f c = absurd (cc)
list_sets (Some truths) w m s f c = absurd (cc)

-- ---- an element before a list

pub cons_left : (y : Term) → cons_term None y ≡ None
unfolding cons_term
cons_left y = refl

pub cons_right : (x : Term) → cons_term x None ≡ None
unfolding cons_term
cons_right None = refl
cons_right (Some (number n)) = refl
cons_right (Some (set s)) = refl
cons_right (Some (numbers ns)) = refl
cons_right (Some (sets ss)) = refl
cons_right (Some empty) = refl

-- a list with one element more
record IsLonger (s t : Val) (m : ℕ) : Type 0 where
  value : Val
  is : cons_term (Some s) (Some t) ≡ Some value
  counts : Counts value (m + 1)

one_number : (s t : Val) (n : ℤ) (m : ℕ) → s ≡ number n → IsNumbersVal t m → IsLonger s t m
unfolding cons_term
one_number s t n m e h = record {
  value = numbers (n ∷ h.value);
  is = ap (λ (x : Val). before x (Some t)) e ∙ ap (λ o. option_map (λ ns. numbers (n ∷ ns)) o) h.is;
  counts = omega (arith, h.len);
}

one_set : (s t : Val) (u : List Range) (m : ℕ) → s ≡ set u → IsSetsVal t m → IsLonger s t m
unfolding cons_term
one_set s t u m e h = record {
  value = sets (u ∷ h.value);
  is = ap (λ (x : Val). before x (Some t)) e ∙ ap (λ o. option_map (λ ns. sets (u ∷ ns)) o) h.is;
  counts = omega (arith, h.len);
}

then_some : {A : Type 0} (o : Option A) (f : A → Known) → IsSome (option_and_then f o) → IsSome o
then_some None f h = absurd (cc)
then_some (Some a) f h = refl

cond_true : (b : Bool) → IsSome (cond b (Some truths) None) → b ≡ true
cond_true true h = refl
cond_true false h = absurd (cc)

cons_longer : (x y : Known) (s t : Val) (m : ℕ) → IsSome (cons_extent x y) → Fits x s → Fits y t → Counts t m → IsLonger s t m
unfolding cons_extent
cons_longer (Some (whole e)) y s t m h p q c = let a = whole_val e s (p.lies (whole e) refl) in one_number s t a.value m a.is (list_numbers y t m (then_some (as_wholes y) _ h) q c)
cons_longer (Some (truth e)) y s t m h p q c = let a = truth_val e s (p.lies (truth e) refl) in one_number s t a.value m a.is (list_bits y t m (cond_true (is_truths y) h) q c)
cons_longer (Some (subset u)) y s t m h p q c = let a = subset_val u s (p.lies (subset u) refl) in one_set s t a.value m a.is (list_sets y t m (then_some (as_subsets y) _ h) q c)
cons_longer None y s t m h p q c = absurd (cc)
cons_longer (Some (wholes es)) y s t m h p q c = absurd (cc)
cons_longer (Some truths) y s t m h p q c = absurd (cc)
cons_longer (Some (subsets us)) y s t m h p q c = absurd (cc)
cons_longer (Some no_element) y s t m h p q c = absurd (cc)

-- what the bounds tell of the longer list
wholes_tell : (e : Ends) (y : Known) (m : ℕ) → Tells y m → Tells (option_and_then (λ es. Some (wholes (e ∷ es))) (as_wholes y)) (m + 1)
wholes_tell e (Some (wholes es)) m h = omega (arith, h)
wholes_tell e (Some no_element) m h = omega (arith, h)
wholes_tell e None m h = tt
wholes_tell e (Some (whole f)) m h = tt
wholes_tell e (Some (truth f)) m h = tt
wholes_tell e (Some (subset u)) m h = tt
wholes_tell e (Some truths) m h = tt
wholes_tell e (Some (subsets us)) m h = tt

subsets_tell : (u : List Range) (y : Known) (m : ℕ) → Tells y m → Tells (option_and_then (λ us. Some (subsets (u ∷ us))) (as_subsets y)) (m + 1)
subsets_tell u (Some (subsets us)) m h = omega (arith, h)
subsets_tell u (Some no_element) m h = omega (arith, h)
subsets_tell u None m h = tt
subsets_tell u (Some (whole f)) m h = tt
subsets_tell u (Some (truth f)) m h = tt
subsets_tell u (Some (subset w)) m h = tt
subsets_tell u (Some truths) m h = tt
subsets_tell u (Some (wholes es)) m h = tt

truths_tell : (b : Bool) (m : ℕ) → Tells (cond b (Some truths) None) (m + 1)
truths_tell true m = omega arith
truths_tell false m = tt

cons_tells : (x y : Known) (m : ℕ) → Tells y m → Tells (cons_extent x y) (m + 1)
unfolding cons_extent
cons_tells (Some (whole e)) y m h = wholes_tell e y m h
cons_tells (Some (truth e)) y m h = truths_tell (is_truths y) m
cons_tells (Some (subset u)) y m h = subsets_tell u y m h
cons_tells None y m h = tt
cons_tells (Some (wholes es)) y m h = tt
cons_tells (Some truths) y m h = tt
cons_tells (Some (subsets us)) y m h = tt
cons_tells (Some no_element) y m h = tt

then_open : {A : Type 0} (o : Option A) (f : A → Known) → ((a : A) → IsOpen (f a)) → IsOpen (option_and_then f o)
then_open None f h = tt
then_open (Some a) f h = h a

truths_open : (b : Bool) → IsOpen (cond b (Some truths) None)
truths_open true = tt
truths_open false = tt

cons_open : (x y : Known) → IsOpen (cons_extent x y)
unfolding cons_extent
cons_open (Some (whole e)) y = then_open (as_wholes y) _ (λ es. tt)
cons_open (Some (truth e)) y = truths_open (is_truths y)
cons_open (Some (subset u)) y = then_open (as_subsets y) _ (λ us. tt)
cons_open None y = tt
cons_open (Some (wholes es)) y = tt
cons_open (Some truths) y = tt
cons_open (Some (subsets us)) y = tt
cons_open (Some no_element) y = tt

pub cons_part : (es : List Entry) (id a b : ℕ) (p q : Part) (f : Option ℕ) (t : ℕ) (c : ℕ) → IsArena es → IsNode es id Cons (a ∷ b ∷ []) → IsNode es t Cons (p.term ∷ q.term ∷ []) → (hp : IsPart es a p) (hq : IsPart es b q) → Says es f (λ v. hp.holds v && hq.holds v) → (p.flag ≡ None → q.flag ≡ None → f ≡ None) → (p.term ≡ a → q.term ≡ b → t ≡ id) → c ≡ q.len + 1 → IsPart es id (record { flag = f; term = t; len = c })
cons_part es id a b p q f t c ar n m hp hq says none own count =
    let value : (v : Values) → AreInBounds es v → term v es t ≡ cons_term (Some (hp.value v)) (Some (hq.value v)) = λ v i.
    node_means es t Cons (p.term ∷ q.term ∷ []) ar m v ∙ ap (λ (x : Term). cons_term x (term v es q.term)) (hp.kept.is v i) ∙ ap (cons_term (Some (hp.value v))) (hq.kept.is v i) in
    let longer : (v : Values) → AreInBounds es v → IsLonger (hp.value v) (hq.value v) q.len = λ v i.
    cons_longer (extent es a) (extent es b) (hp.value v) (hq.value v) q.len (node_some es id Cons (a ∷ b ∷ []) ar n) (fits es a p v ar hp i) (fits es b q v ar hq i) (hq.counts v i) in
    let some : (v : Values) → AreInBounds es v → IsSome (cons_term (Some (hp.value v)) (Some (hq.value v))) = λ v i. subst (λ (x : Term). IsSome x) (sym (longer v i).is) refl in
    let bounds = node_bounds es id Cons (a ∷ b ∷ []) ar n in
    record {
      holds = λ v. hp.holds v && hq.holds v;
      value = λ v. value_or (term v es t);
      flag = says;
      kept = record {
        total = node_total es t Cons (p.term ∷ q.term ∷ []) m (hp.kept.total, (hq.kept.total, tt)) (λ v i. subst (λ (x : Term). IsSome x) (sym (value v i)) (some v i));
        bounds = like_bounds es id t Cons (a ∷ b ∷ []) (p.term ∷ q.term ∷ []) ar refl n m (pair_like es a b p.term q.term hp.kept.bounds hq.kept.bounds);
        is = λ v i. some_or (term v es t) (subst (λ (x : Term). IsSome x) (sym (value v i)) (some v i));
      };
      is = λ v i. node_means es id Cons (a ∷ b ∷ []) ar n v ∙ ap (λ (x : Term). cons_term x (term v es b)) (hp.is v i) ∙ ap (cons_term (only (hp.holds v) (hp.value v))) (hq.is v i) ∙ two_only cons_term (hp.holds v) (hq.holds v) (hp.value v) (hq.value v) cons_left cons_right (some v i) ∙ ap (λ (x : Term). only (hp.holds v && hq.holds v) (value_or x)) (sym (value v i));
      open_ = λ d h. subst (λ (x : Known). IsOpen x) (sym bounds) (cons_open (extent es a) (extent es b));
      told = subst (λ j. Tells (extent es id) j) (sym count) (subst (λ (x : Known). Tells x (q.len + 1)) (sym bounds) (cons_tells (extent es a) (extent es b) q.len hq.told));
      counts = λ v i. subst (λ j. Counts (value_or (term v es t)) j) (sym count) (subst (λ (x : Term). Counts (value_or x) (q.len + 1)) (sym (value v i ∙ (longer v i).is)) (longer v i).counts);
      elements = λ j l. count ∙ cons_elements es id a b q.len j n hq.elements l;
      own = λ w.
          let o = hp.own (kid_told es id Cons (a ∷ b ∷ []) n w 0 a refl) in
          let r = hq.own (kid_told es id Cons (a ∷ b ∷ []) n w 1 b refl) in
          (none o.0 r.0, own o.1 r.1);
    }

-- ---- the least and the greatest

extreme_none : (side : Side) → extreme_term side None ≡ None
unfolding extreme_term
extreme_none side = refl

extreme_sort : (side : Side) (x : Known) → IsSome (extreme_extent side x) → IsSome (as_wholes x)
extreme_sort side x h = by (as_wholes x) h
  where
    by : (o : Option (List Ends)) → IsSome (option_map (λ es. whole (extreme_ends side es)) o) → IsSome o
    by None g = absurd (cc)
    by (Some es) g = refl

extreme_there : (side : Side) (w : Val) (m : ℕ) → IsNumbersVal w m → 0 < m → IsSome (extreme_term side (Some w))
unfolding extreme_term
extreme_there side w m h l = subst (λ (o : Option (List ℤ)). IsSome (option_and_then (extreme_value side) o)) (sym h.is) (by h.value h.len)
  where
    by : (ns : List ℤ) → length ns ≡ m → IsSome (extreme_value side ns)
    by [] e = absurd (omega (arith, e, l))
    by (n ∷ ns) e = refl

extreme_gone : (side : Side) (w : Val) → IsNumbersVal w 0 → extreme_term side (Some w) ≡ None
unfolding extreme_term
extreme_gone side w h = ap (λ (o : Option (List ℤ)). option_and_then (extreme_value side) o) h.is ∙ by h.value h.len
  where
    by : (ns : List ℤ) → length ns ≡ 0 → extreme_value side ns ≡ None
    by [] e = refl
    by (n ∷ ns) e = absurd (omega (arith, e))

extreme_bounds : (side : Side) (x : Known) → IsSome (extreme_extent side x) → Tells x 0 → extreme_extent side x ≡ Some (whole bounds.nothing)
extreme_bounds side (Some (wholes [])) s h = refl
extreme_bounds side (Some (wholes (e ∷ es))) s h = absurd (omega (arith, h))
extreme_bounds side (Some no_element) s h = refl
extreme_bounds side None s h = absurd (cc)
extreme_bounds side (Some (whole e)) s h = absurd (cc)
extreme_bounds side (Some (truth e)) s h = absurd (cc)
extreme_bounds side (Some (subset u)) s h = absurd (cc)
extreme_bounds side (Some truths) s h = absurd (cc)
extreme_bounds side (Some (subsets us)) s h = absurd (cc)

only_none : (f : Term → Term) (b : Bool) (w : Val) → f None ≡ None → f (Some w) ≡ None → f (only b w) ≡ None
only_none f true w n s = s
only_none f false w n s = n

extreme_part_of : (es : List Entry) (id a : ℕ) (k : NodeKind) (side : Side) (p : Part) (t : ℕ) → IsArena es → is_inner k ≡ true → is_cons k ≡ false → (n : IsNode es id k (a ∷ [])) → IsNode es t k (p.term ∷ []) → (hp : IsPart es a p) → ((v : Values) (x : Term) → kind_term v n.there k (x ∷ []) ≡ extreme_term side x) → IsSome (extreme_extent side (extent es a)) → 0 < p.len → (p.term ≡ a → t ≡ id) → IsPart es id (record { flag = p.flag; term = t; len = 0 })
extreme_part_of es id a k side p t ar inner other n m hp is s long own =
    strict_one_part es id a k p t ar inner other n m hp (λ v. is v None ∙ extreme_none side)
    (λ v b. subst (λ (x : Term). IsSome x) (sym (is v (Some (hp.value v)))) (extreme_there side (hp.value v) p.len (list_numbers (extent es a) (hp.value v) p.len (extreme_sort side (extent es a) s) (fits es a p v ar hp b) (hp.counts v b)) long)) own

extreme_never : (es : List Entry) (id a : ℕ) (k : NodeKind) (side : Side) (p : Part) → IsArena es → (n : IsNode es id k (a ∷ [])) → (hp : IsPart es a p) → ((v : Values) (x : Term) → kind_term v n.there k (x ∷ []) ≡ extreme_term side x) → extent es id ≡ extreme_extent side (extent es a) → p.len ≡ 0 → HasNoValue es id
extreme_never es id a k side p ar n hp is same none =
    let some : IsSome (extreme_extent side (extent es a)) = subst (λ (x : Known). IsSome x) same (ar.bounded id n.there n.stands) in
    record {
      bounds = subst (λ (x : Known). IsNever x) (sym (same ∙ extreme_bounds side (extent es a) some (subst (λ j. Tells (extent es a) j) none hp.told))) refl;
      is = λ v b. node_means es id k (a ∷ []) ar n v ∙ is v (term v es a) ∙ ap (extreme_term side) (hp.is v b) ∙ only_none (extreme_term side) (hp.holds v) (hp.value v) (extreme_none side)
          (extreme_gone side (hp.value v) (list_numbers (extent es a) (hp.value v) 0 (extreme_sort side (extent es a) some) (fits es a p v ar hp b) (subst (λ j. Counts (hp.value v) j) none (hp.counts v b))));
    }

pub extreme_part : (es : List Entry) (id a : ℕ) (k : NodeKind) (p : Part) (t : ℕ) → IsArena es → group_of k ≡ group.Extreme → IsNode es id k (a ∷ []) → IsNode es t k (p.term ∷ []) → IsPart es a p → 0 < p.len → (p.term ≡ a → t ≡ id) → IsPart es id (record { flag = p.flag; term = t; len = 0 })
extreme_part es id a Min p t ar g n m hp long own = extreme_part_of es id a Min Least p t ar refl refl n m hp (λ v x. refl) (node_some es id Min (a ∷ []) ar n) long own
extreme_part es id a Max p t ar g n m hp long own = extreme_part_of es id a Max Greatest p t ar refl refl n m hp (λ v x. refl) (node_some es id Max (a ∷ []) ar n) long own
extreme_part es id a _ p t ar g n m hp long own = absurd (cc)

pub extreme_no_value : (es : List Entry) (id a : ℕ) (k : NodeKind) (p : Part) → IsArena es → group_of k ≡ group.Extreme → IsNode es id k (a ∷ []) → IsPart es a p → p.len ≡ 0 → HasNoValue es id
extreme_no_value es id a Min p ar g n hp none = extreme_never es id a Min Least p ar n hp (λ v x. refl) (node_bounds es id Min (a ∷ []) ar n) none
extreme_no_value es id a Max p ar g n hp none = extreme_never es id a Max Greatest p ar n hp (λ v x. refl) (node_bounds es id Max (a ∷ []) ar n) none
extreme_no_value es id a _ p ar g n hp none = absurd (cc)
