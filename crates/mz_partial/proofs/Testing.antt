-- Operands that are tested and made safe, and what never has a value.
use Rattle.std.proofs.Common.{◌≡◌, ℕ, ◌<◌, ◌≤◌, ℤ, pos, int_le, int_lt, ◌≤ℤ◌, ◌<ℤ◌, ◌^◌, List, [], ◌∷◌, length, take, Bool, true, false, not, ◌&&◌, cond, Option, Some, None, IsSome, slice_get, Result, IfOk, inl, inr, refl, sym, ap, subst, ◌∙◌, arith}
use Rattle.std.specs.Int.{int_min, int_max}
use Rattle.std.specs.Ordering.{int_eq}
use Rattle.std.proofs.lemmas.Int.{ints, clamps}
use Rattle.mz_value.specs.Ranges.{Range}
use Rattle.mz_interval.specs.Ends.{Ends, Encloses, hull_of, is_number, least_number, greatest_number}
use Rattle.mz_operations.specs.Bounds as bounds
use Rattle.mz_arena.specs.declared.node.NodeKind.{NodeKind}
use Rattle.mz_arena.specs.declared.node.NodeKind.TheVariants.{Not, If, Ne, Le, SetConst}
use Rattle.mz_arena.specs.declared.node.Sort.TheVariants as sort
use Rattle.mz_arena.specs.Entries.{Entry, arity, is_set_const}
use Rattle.mz_arena.specs.Values.{Val, number, set, Term, Values, bit, if_term, comparison_term}
use Rattle.mz_arena.specs.Terms.{kind_term, term}
use Rattle.mz_arena.specs.Extents.{Known, whole, truth, subset, wholes, truths, subsets, empty as no_element, open_truth, sort_of, not_extent, extent}
use Rattle.mz_arena.specs.Charges.{charges}
use Rattle.mz_arena.specs.Arenas.{IsArena, IsConst, Grew, Extends}
use Rattle.mz_arena.specs.InBounds.{AreInBounds}
use Rattle.mz_arena.proofs.Folds.{get-below}
use Rattle.mz_arena.proofs.Growing.{grew_same, grew_both}
use Rattle.mz_partial.specs.declared.part.Part.{Part}
use Rattle.mz_partial.specs.Groups.{is_partial}
use Rattle.mz_partial.specs.Totals.{IsTruth, IsWhole, SaysAt, Says, Has, IsPart, Parted}
use Rattle.mz_partial.specs.Told.{IsApart, AreInside}
use Rattle.mz_partial.specs.Nodes.{IsNode, Placed, AreAlike, IsPartialNode, compares, three}
use Rattle.mz_partial.specs.Calls.{IsFlag, Joins, IsNumber, IsConstant, Tests, IsSafe, is_nonzero, is_from_one, is_up_to, is_place, IsNever, HasNoValue, IsBlank}
use Rattle.mz_partial.proofs.Told.{told_before, no_partial_list}
use Rattle.mz_partial.proofs.Standing.{node_means, node_bounds, node_total, node_later, extends_same, extends_both, extent_in, truth_later, part_later, bounds_before}
use Rattle.mz_partial.proofs.ByKind.{Fits, not_open, IsPlain, plain_tells, plain_counts, plain_open}
use Rattle.mz_partial.proofs.Costing.{costs_by_charges, partial_charge}
use Rattle.mz_partial.proofs.Asked.{comparison_bounds, wholes_choice}
use Rattle.mz_partial.proofs.Saying.{some_is, if_bit, not_says, says_by, some_none}
use Rattle.mz_partial.proofs.Quotients.{number_or, part_number, has_fits}

pub whole_later : (old new : List Entry) (u : ℕ) (e : Ends) → Grew old new → extent old u ≡ Some (whole e) → extent new u ≡ Some (whole e)
whole_later old new u e g h = g.extents u (extent_in old u (Some (whole e)) refl h) ∙ h

pub is_flag_later : (old new : List Entry) (f : Option ℕ) → Grew old new → IsFlag old f → IsFlag new f
is_flag_later old new None g h = tt
is_flag_later old new (Some d) g h = truth_later old new d g h

-- ---- tests

has_as : (es : List Entry) (u : ℕ) (x y : Known) (w : Values → Val) → extent es u ≡ y → Has es u x w → Has es u y w
has_as es u x y w h k = record { total = k.total; bounds = h; is = k.is }

encloses_at : (es : List Entry) (u : ℕ) (e : Ends) (m : Values → ℤ) (v : Values) → IsArena es → Has es u (Some (whole e)) (λ v. number (m v)) → AreInBounds es v → Encloses e (m v)
encloses_at es u e m v a h b = (has_fits es u (Some (whole e)) (λ v. number (m v)) v a h b).lies (whole e) refl

-- no flag, where the bounds tell it
pub tests_told : (told : Type 0) (es : List Entry) (u : ℕ) (e : Ends) (holds : ℤ → Bool) → IsArena es → extent es u ≡ Some (whole e) → ((m : ℤ) → Encloses e m → holds m ≡ true) → Tests 2 told es es u holds None
tests_told told es u e holds a h all = record {
  cost = omega arith;
  own = λ w. (refl, refl);
  extends = extends_same es;
  arena = a;
  flag = tt;
  says = λ fs g ar x m k. (λ v b. all (m v) (encloses_at fs u e m v ar (has_as fs u x (Some (whole e)) (λ v. number (m v)) (whole_later es fs u e g h) k) b));
}

compare_says : (es : List Entry) (k : NodeKind) (a b h : ℕ) (e f : Ends) (x y : Values → ℤ) (test : ℤ → ℤ → Bool) → IsArena es → compares k ≡ true → IsNode es h k (a ∷ b ∷ []) → ((v : Values) (d : Entry) (i j : ℤ) → kind_term v d k (Some (number i) ∷ Some (number j) ∷ []) ≡ bit (test i j)) → Has es a (Some (whole e)) (λ v. number (x v)) → Has es b (Some (whole f)) (λ v. number (y v)) → SaysAt es h (λ v. test (x v) (y v))
compare_says es k a b h e f x y test ar c n means p q =
    let is : (v : Values) → AreInBounds es v → term v es h ≡ bit (test (x v) (y v)) = λ v i.
    node_means es h k (a ∷ b ∷ []) ar n v ∙ ap (λ (t : Term). kind_term v n.there k (t ∷ term v es b ∷ [])) (p.is v i) ∙ ap (λ (t : Term). kind_term v n.there k (Some (number (x v)) ∷ t ∷ [])) (q.is v i) ∙ means v n.there (x v) (y v) in
    record {
      truth = record { ends = bounds.truth; is = node_bounds es h k (a ∷ b ∷ []) ar n ∙ comparison_bounds n.there k (extent es a) (extent es b) e f c p.bounds q.bounds };
      total = node_total es h k (a ∷ b ∷ []) n (p.total, (q.total, tt)) (λ v i. some_is (term v es h) _ (is v i));
      is = is;
    }

compare_truth : (es : List Entry) (k : NodeKind) (a b h : ℕ) (e f : Ends) → IsArena es → compares k ≡ true → IsNode es h k (a ∷ b ∷ []) → extent es a ≡ Some (whole e) → extent es b ≡ Some (whole f) → IsTruth es h
compare_truth es k a b h e f ar c n p q = record { ends = bounds.truth; is = node_bounds es h k (a ∷ b ∷ []) ar n ∙ comparison_bounds n.there k (extent es a) (extent es b) e f c p q }

pub number_whole : (old new : List Entry) (z : ℤ) (d : ℕ) → IsNumber old new z d → IsWhole new d
number_whole old new z d n = record { ends = (z, z); is = (n.has new (grew_same new) n.arena).bounds }

ne_means : (v : Values) (d : Entry) (i j : ℤ) → kind_term v d Ne (Some (number i) ∷ Some (number j) ∷ []) ≡ bit (not (int_eq i j))
unfolding comparison_term
ne_means v d i j = refl

le_means : (v : Values) (d : Entry) (i j : ℤ) → kind_term v d Le (Some (number i) ∷ Some (number j) ∷ []) ≡ bit (int_le i j)
unfolding comparison_term
le_means v d i j = refl

pub tests_nonzero : (told : Type 0) (old mid new : List Entry) (u d f : ℕ) (e : Ends) → extent old u ≡ Some (whole e) → IsNumber old mid (pos 0) d → Placed mid new Ne (u ∷ d ∷ []) f → (told → ⊥) → Tests 2 told old new u is_nonzero (Some f)
tests_nonzero told old mid new u d f e h z p untold =
    let w = extends_both old mid new z.extends p.extends in
    record {
      cost = omega (arith, z.cost, p.cost);
      own = λ r. absurd (untold r);
      extends = w;
      arena = p.arena;
      flag = compare_truth new Ne u d f e (pos 0, pos 0) p.arena refl p.node (whole_later old new u e w.grew h) (z.has new p.extends.grew p.arena).bounds;
      says = λ fs g ar x m k.
          let late = grew_both w.grew g in
          compare_says fs Ne u d f e (pos 0, pos 0) m (λ v. pos 0) (λ i j. not (int_eq i j)) ar refl (node_later new fs f Ne (u ∷ d ∷ []) g p.node) ne_means (has_as fs u x (Some (whole e)) (λ v. number (m v)) (whole_later old fs u e late h) k) (z.has fs (grew_both p.extends.grew g) ar);
    }

pub tests_from_one : (told : Type 0) (old mid new : List Entry) (u d f : ℕ) (e : Ends) → extent old u ≡ Some (whole e) → IsNumber old mid (pos 1) d → Placed mid new Le (d ∷ u ∷ []) f → (told → ⊥) → Tests 2 told old new u is_from_one (Some f)
tests_from_one told old mid new u d f e h z p untold =
    let w = extends_both old mid new z.extends p.extends in
    record {
      cost = omega (arith, z.cost, p.cost);
      own = λ r. absurd (untold r);
      extends = w;
      arena = p.arena;
      flag = compare_truth new Le d u f (pos 1, pos 1) e p.arena refl p.node (z.has new p.extends.grew p.arena).bounds (whole_later old new u e w.grew h);
      says = λ fs g ar x m k.
          let late = grew_both w.grew g in
          compare_says fs Le d u f (pos 1, pos 1) e (λ v. pos 1) m int_le ar refl (node_later new fs f Le (d ∷ u ∷ []) g p.node) le_means (z.has fs (grew_both p.extends.grew g) ar) (has_as fs u x (Some (whole e)) (λ v. number (m v)) (whole_later old fs u e late h) k);
    }

pub tests_up_to : (told : Type 0) (old mid new : List Entry) (u d f : ℕ) (e : Ends) (n : ℤ) → extent old u ≡ Some (whole e) → IsNumber old mid n d → Placed mid new Le (u ∷ d ∷ []) f → (told → ⊥) → Tests 2 told old new u (is_up_to n) (Some f)
tests_up_to told old mid new u d f e n h z p untold =
    let w = extends_both old mid new z.extends p.extends in
    record {
      cost = omega (arith, z.cost, p.cost);
      own = λ r. absurd (untold r);
      extends = w;
      arena = p.arena;
      flag = compare_truth new Le u d f e (n, n) p.arena refl p.node (whole_later old new u e w.grew h) (z.has new p.extends.grew p.arena).bounds;
      says = λ fs g ar x m k.
          let late = grew_both w.grew g in
          compare_says fs Le u d f e (n, n) m (λ v. n) int_le ar refl (node_later new fs f Le (u ∷ d ∷ []) g p.node) le_means (has_as fs u x (Some (whole e)) (λ v. number (m v)) (whole_later old fs u e late h) k) (z.has fs (grew_both p.extends.grew g) ar);
    }

pub tests_place : (old m1 m2 new : List Entry) (u : ℕ) (e : Ends) (n : ℤ) (f g h : Option ℕ) → Tests 2 (pos 1 ≤ℤ e.0) old m1 u is_from_one f → Tests 2 (e.1 ≤ℤ n) m1 m2 u (is_up_to n) g → Joins m2 new f g h → Tests 6 (AreInside n e) old new u (is_place n) h
tests_place old m1 m2 new u e n f g h s t j =
    let late = extends_both m1 m2 new t.extends j.extends in
    record {
      cost = omega (arith, s.cost, t.cost, j.cost);
      own = λ w. let first = s.own w.0 in let last = t.own w.1 in let both = j.own first.0 last.0 in (both.0, both.1 ∙ last.1 ∙ first.1);
      extends = extends_both old m1 new s.extends late;
      arena = j.arena;
      flag = j.flag (is_flag_later m1 m2 f t.extends.grew s.flag) t.flag;
      says = λ fs w ar x m k. j.says fs w ar (λ v. is_from_one (m v)) (λ v. is_up_to n (m v)) (s.says fs (grew_both late.grew w) ar x m k) (t.says fs (grew_both j.extends.grew w) ar x m k);
    }

pub above_zero : (e : Ends) (m k : ℤ) → int_lt (pos 0) k ≡ true → k ≡ e.0 → Encloses e m → is_nonzero m ≡ true
above_zero e m k t h n = let l = n.from in grind (arith, ints)

pub below_zero : (e : Ends) (m k : ℤ) → int_lt k (pos 0) ≡ true → k ≡ e.1 → Encloses e m → is_nonzero m ≡ true
below_zero e m k t h n = let l = n.to in grind (arith, ints)

pub above_one : (e : Ends) (m k : ℤ) → int_le (pos 1) k ≡ true → k ≡ e.0 → Encloses e m → is_from_one m ≡ true
above_one e m k t h n = let l = n.from in grind (arith, ints)

pub below_last : (e : Ends) (n m k j : ℤ) → int_le k j ≡ true → k ≡ e.1 → j ≡ n → Encloses e m → is_up_to n m ≡ true
below_last e n m k j t h i o = let l = o.to in grind (arith, ints)

-- ends that tell nothing
pub not_apart : (e : Ends) (k j : ℤ) → int_lt (pos 0) k ≡ false → k ≡ e.0 → int_lt j (pos 0) ≡ false → j ≡ e.1 → IsApart e → ⊥
not_apart e k j s h t i (inl x) = let p : k ≤ℤ pos 0 = grind (arith, ints) in omega (arith, ints, p, h, x)
not_apart e k j s h t i (inr x) = let p : pos 0 ≤ℤ j = grind (arith, ints) in omega (arith, ints, p, i, x)

pub not_from_one : (e : Ends) (k : ℤ) → int_le (pos 1) k ≡ false → k ≡ e.0 → pos 1 ≤ℤ e.0 → ⊥
not_from_one e k t h x = let p : k ≤ℤ pos 0 = grind (arith, ints) in omega (arith, ints, p, h, x)

pub not_up_to : (e : Ends) (n k j : ℤ) → int_le k j ≡ false → k ≡ e.1 → j ≡ n → e.1 ≤ℤ n → ⊥
not_up_to e n k j t h i x = let p : j <ℤ k = grind (arith, ints) in omega (arith, ints, p, h, i, x)

-- a length in the limit is a number
pub length_number : (n : ℕ) → n ≤ 2 ^ 61 → is_number (pos n) ≡ true
length_number n h = both (int_le least_number (pos n)) (int_le (pos n) greatest_number) (grind (arith, ints)) (grind (arith, ints))
  where
    both : (a b : Bool) → a ≡ true → b ≡ true → (a && b) ≡ true
    both true b p q = q
    both false b p q = absurd (cc)

-- ---- safe operands

pub safe_none : (es : List Entry) (u : ℕ) (f : Option ℕ) (k : ℤ) → IsArena es → f ≡ None → IsSafe es es u f k u
safe_none es u f k a h = record {
  cost = omega arith;
  own = λ q. (refl, refl);
  extends = extends_same es;
  arena = a;
  has = λ fs g ar e m b p q s. let n = says_by fs f None b h s in record {
    total = p.total;
    bounds = p.bounds;
    is = λ v i. p.is v i ∙ ap (λ c. Some (number (cond c (m v) k))) (sym (n v i));
  };
}

hull_same : (e : Ends) (k : ℤ) → Encloses e k → hull_of e (k, k) ≡ e
hull_same e k h =
    let low : int_min e.0 k ≡ e.0 = omega (arith, ints, clamps, h.from) in
    let high : int_max e.1 k ≡ e.1 = omega (arith, ints, clamps, h.to) in
    ap (λ (i : ℤ). pair i (int_max e.1 k)) low ∙ ap (pair e.0) high
  where
    pair : ℤ → ℤ → Ends
    pair a b = (a, b)

cond_number : (c : Bool) (m k : ℤ) → cond c (Some (number m)) (Some (number k)) ≡ Some (number (cond c m k))
cond_number true m k = refl
cond_number false m k = refl

pub safe_some : (old mid new : List Entry) (u c d w : ℕ) (f : Option ℕ) (k : ℤ) → f ≡ Some c → IsNumber old mid k d → Placed mid new If (three c u d) w → IsSafe old new u f k w
safe_some old mid new u c d w f k h z p = record {
  cost = omega (arith, z.cost, p.cost);
  own = λ q. some_none f c h q;
  extends = extends_both old mid new z.extends p.extends;
  arena = p.arena;
  has = λ fs g ar e m b q enc s.
      let said = says_by fs f (Some c) b h s in
      let num = z.has fs (grew_both p.extends.grew g) ar in
      let n = node_later new fs w If (three c u d) g p.node in
      let is : (v : Values) → AreInBounds fs v → term v fs w ≡ Some (number (cond (b v) (m v) k)) = λ v i.
      node_means fs w If (three c u d) ar n v ∙ ap (λ (t : Term). if_term t (term v fs u) (term v fs d)) (said.is v i) ∙ ap (λ (t : Term). if_term (bit (b v)) t (term v fs d)) (q.is v i) ∙ ap (λ (t : Term). if_term (bit (b v)) (Some (number (m v))) t) (num.is v i) ∙ if_bit (b v) (Some (number (m v))) (Some (number k)) ∙ cond_number (b v) (m v) k in
      record {
        total = node_total fs w If (three c u d) n (said.total, (q.total, (num.total, tt))) (λ v i. some_is (term v fs w) _ (is v i));
        bounds = node_bounds fs w If (three c u d) ar n ∙ wholes_choice _ _ _ said.truth.ends e (k, k) said.truth.is q.bounds num.bounds ∙ ap (λ g. Some (whole g)) (hull_same e k enc);
        is = is;
      };
}

pub choice_alike : (old mid : List Entry) (u d : ℕ) (k : ℤ) → IsWhole old u → IsNumber old mid k d → AreAlike mid u d
choice_alike old mid u d k w z = inl (record { ends = w.ends; is = whole_later old mid u w.ends z.extends.grew w.is }, number_whole old mid k d z)

-- an operand that was tested and made safe, in a later arena
pub record IsTested (es : List Entry) (i : ℕ) (p : Part) (holds : ℤ → Bool) (f : Option ℕ) (k : ℤ) (w : ℕ) (e : Ends) : Type 0 where
  pub part : IsPart es i p
  pub is_whole : extent es i ≡ Some (whole e)
  pub says : Says es f (λ v. holds (number_or (part.value v)))
  pub has : Has es w (Some (whole e)) (λ v. number (cond (holds (number_or (part.value v))) (number_or (part.value v)) k))

pub tested : (most : ℕ) (told : Type 0) (old m1 m2 es : List Entry) (i : ℕ) (p : Part) (holds : ℤ → Bool) (f : Option ℕ) (k : ℤ) (w : ℕ) (e : Ends) → IsArena old → i < length old → IsPart old i p → extent old i ≡ Some (whole e) → Encloses e k → Tests most told old m1 p.term holds f → IsSafe m1 m2 p.term f k w → Grew m2 es → IsArena es → IsTested es i p holds f k w e
tested most told old m1 m2 es i p holds f k w e a below h is_whole enc t s g ar =
    let late = grew_both s.extends.grew g in
    let all = grew_both t.extends.grew late in
    let np = part_later old es i p all a below h in
    let here = whole_later old es i e all is_whole in
    let num = part_number es i p e ar np here in
    let said = t.says es late ar (Some (whole e)) (λ v. number_or (np.value v)) num in
    record {
      part = np;
      is_whole = here;
      says = said;
      has = s.has es g ar e (λ v. number_or (np.value v)) (λ v. holds (number_or (np.value v))) num enc said;
    }

-- ---- what never has a value

pub never_plain : (x : Known) → IsNever x → IsPlain x
never_plain (Some (whole e)) h = tt
never_plain (Some (truth e)) h = h
never_plain (Some (subset u)) h = tt
never_plain None h = tt
never_plain (Some (wholes es)) h = absurd h
never_plain (Some truths) h = absurd h
never_plain (Some (subsets us)) h = absurd h
never_plain (Some no_element) h = absurd h

same_entry : {a b : Entry} → Some a ≡ Some b → a ≡ b
same_entry q = cc

pub never_parted : (old mid new : List Entry) (id t d : ℕ) → IsArena old → HasNoValue old id → IsPartialNode old id → IsBlank old mid (extent old id) t → IsConstant mid new false d → Parted old new id (record { flag = Some d; term = t; len = 0 })
never_parted old mid new id t d a none partial b c =
    let e = extends_both old mid new b.extends c.extends in
    let g = e.grew in
    let below = get-below old id partial.there partial.stands in
    let same = g.extents id below in
    let never : IsNever (extent new id) = subst (λ (x : Known). IsNever x) (sym same) none.bounds in
    let h = b.has new c.extends.grew c.arena in
    let stands : slice_get new id ≡ Some partial.there = g.same id below ∙ partial.stands in
    record {
      same = λ w. absurd (partial.untold w);
      cost = λ f there_f. omega (arith, b.cost, c.cost, partial_charge f.node.kind (ap (λ (d : Entry). is_partial d.node.kind) (sym (same_entry (sym partial.stands ∙ there_f))) ∙ partial.partial));
      extends = e;
      arena = c.arena;
      part = record {
        holds = λ v. false;
        value = b.value;
        flag = c.says new (grew_same new) c.arena;
        kept = record { total = h.total; bounds = h.bounds ∙ sym same; is = h.is };
        is = λ v i. g.terms v id below ∙ none.is v (bounds_before old new v g i);
        open_ = λ f k. plain_open (extent new id) (never_plain (extent new id) never);
        told = plain_tells (extent new id) 0 (never_plain (extent new id) never);
        counts = λ v i. plain_counts (extent new id) (b.value v) 0 (c.arena.bounded id partial.there stands) (never_plain (extent new id) never) (subst (λ (x : Known). Fits x (b.value v)) (sym same) (has_fits new t (extent old id) b.value v c.arena h i));
        elements = λ n l. no_partial_list new id n partial.there stands partial.partial l;
        own = λ w. absurd (partial.untold (told_before old new id g a below w));
      };
    }

pub blank_number : (old new : List Entry) (t : ℕ) → IsNumber old new (pos 0) t → IsBlank old new (Some (whole bounds.nothing)) t
blank_number old new t n = record { cost = omega (arith, n.cost); extends = n.extends; arena = n.arena; value = λ v. number (pos 0); has = n.has }

pub constant_truth : (old new : List Entry) (b : Bool) (t : ℕ) → IsConstant old new b t → IsTruth new t
constant_truth old new b t c = (c.says new (grew_same new) c.arena).truth

pub blank_truth : (old mid new : List Entry) (y t : ℕ) → IsConstant old mid true y → Placed mid new Not (y ∷ []) t → IsBlank old new open_truth t
blank_truth old mid new y t c p = record {
  cost = omega (arith, c.cost, p.cost);
  extends = extends_both old mid new c.extends p.extends;
  arena = p.arena;
  value = λ v. number (pos 0);
  has = λ fs g ar.
      let s = not_says fs y t (λ v. true) ar (node_later new fs t Not (y ∷ []) g p.node) (c.says fs (grew_both p.extends.grew g) ar) in
      record { total = s.total; bounds = node_bounds fs t Not (y ∷ []) ar (node_later new fs t Not (y ∷ []) g p.node) ∙ ap not_extent (c.says fs (grew_both p.extends.grew g) ar).truth.is ∙ not_open (c.says fs (grew_both p.extends.grew g) ar).truth.ends; is = s.is };
}

set_kind : (k : NodeKind) → is_set_const k ≡ true → k ≡ SetConst
set_kind SetConst h = refl
set_kind _ h = absurd (cc)

pub blank_set : (old new : List Entry) (t : ℕ) (s : List Range) → Extends old new → IsArena new → IsConst new s t → s ≡ [] → charges new ≡ charges old → IsBlank old new (Some (subset [])) t
blank_set old new t s e a c h same =
    let kind = set_kind c.node.kind c.const in
    record {
      cost = omega (arith, costs_by_charges old new e.grew same);
      extends = e;
      arena = a;
      value = λ v. set [];
      has = λ fs g ar.
          let m : IsNode fs t SetConst [] = record { there = record { node = c.node; set = s }; stands = g.same t c.made.place ∙ c.made.stands; kind = kind; kids = ap (λ k. take (arity k) (three c.node.a c.node.b c.node.c)) kind } in
          let is : (v : Values) → term v fs t ≡ Some (set []) = λ v. node_means fs t SetConst [] ar m v ∙ ap (λ (u : List Range). Some (set u)) h in
          record {
            total = node_total fs t SetConst [] m tt (λ v i. some_is (term v fs t) _ (is v));
            bounds = node_bounds fs t SetConst [] ar m ∙ ap (λ (u : List Range). Some (subset u)) h;
            is = λ v i. is v;
          };
    }

never_some : (x : Known) → IsNever x → IsSome x
never_some (Some (whole e)) h = refl
never_some (Some (truth e)) h = refl
never_some (Some (subset u)) h = refl
never_some None h = absurd h
never_some (Some (wholes es)) h = absurd h
never_some (Some truths) h = absurd h
never_some (Some (subsets us)) h = absurd h
never_some (Some no_element) h = absurd h

pub never_in : (es : List Entry) (id : ℕ) → IsNever (extent es id) → id < length es
never_in es id h = extent_in es id (extent es id) (never_some (extent es id) h) refl

-- the bounds of what never has a value, by its sort
pub never_whole : (x : Known) → IsNever x → sort_of x ≡ Some sort.Integer → x ≡ Some (whole bounds.nothing)
never_whole (Some (whole e)) h s = ap (λ f. Some (whole f)) h
never_whole None h s = absurd (cc)
never_whole (Some (truth e)) h s = absurd (cc)
never_whole (Some (subset u)) h s = absurd (cc)
never_whole (Some (wholes es)) h s = absurd h
never_whole (Some truths) h s = absurd h
never_whole (Some (subsets us)) h s = absurd h
never_whole (Some no_element) h s = absurd h

pub never_truth : (x : Known) → IsNever x → sort_of x ≡ Some sort.Boolean → x ≡ open_truth
never_truth (Some (truth e)) h s = ap (λ f. Some (truth f)) h
never_truth None h s = absurd (cc)
never_truth (Some (whole e)) h s = absurd (cc)
never_truth (Some (subset u)) h s = absurd (cc)
never_truth (Some (wholes es)) h s = absurd h
never_truth (Some truths) h s = absurd h
never_truth (Some (subsets us)) h s = absurd h
never_truth (Some no_element) h s = absurd h

pub never_set : (x : Known) → IsNever x → sort_of x ≡ Some sort.Set → x ≡ Some (subset [])
never_set (Some (subset u)) h s = ap (λ f. Some (subset f)) h
never_set None h s = absurd (cc)
never_set (Some (whole e)) h s = absurd (cc)
never_set (Some (truth e)) h s = absurd (cc)
never_set (Some (wholes es)) h s = absurd h
never_set (Some truths) h s = absurd h
never_set (Some (subsets us)) h s = absurd h
never_set (Some no_element) h s = absurd h

pub never_list : (x : Known) → IsNever x → sort_of x ≡ Some sort.List → ⊥
never_list (Some (whole e)) h s = absurd (cc)
never_list (Some (truth e)) h s = absurd (cc)
never_list (Some (subset u)) h s = absurd (cc)
never_list None h s = absurd (cc)
never_list (Some (wholes es)) h s = h
never_list (Some truths) h s = h
never_list (Some (subsets us)) h s = h
never_list (Some no_element) h s = h

pub blank_as : {E : Type 0} (r : Result ℕ E) (old new : List Entry) (x y : Known) → x ≡ y → IfOk r (IsBlank old new y) → IfOk r (IsBlank old new x)
blank_as r old new x y h k = subst (λ (z : Known). IfOk r (IsBlank old new z)) (sym h) k
