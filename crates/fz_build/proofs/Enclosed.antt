-- A row's result lies in the domain that its inputs' domains give.
use Rattle.std.proofs.Common.{◌≡◌, ℕ, zero, suc, ◌≤◌, ◌+◌, ◌-◌, ℤ, pos, negsuc, neg_ℤ, ◌≤ℤ◌, ◌+ℤ◌, ◌*ℤ◌, List, [], ◌∷◌, map, slice_get, Bool, true, false, cond, Option, Some, None, int_le, refl, sym, subst, arith, inl}
use Rattle.std.specs.Prelude.{◌&&◌, unwrap_or}
use Rattle.std.specs.List.{AllByRecursion}
use Rattle.std.proofs.lemmas.Bool.{and_from}
use Rattle.std.proofs.lemmas.Int.{ints}
use Rattle.mz_value.specs.Ranges.{Range, Has, range_of, cardinality}
use Rattle.mz_value.proofs.Comparisons.{int_le_true}
use Rattle.mz_interval.specs.Ends.{Ends, Encloses, hull_of, if_in_limit, if_interval, is_number}
use Rattle.mz_interval.specs.Rows.{sum_of, negation_of, product_of}
use Rattle.mz_interval.proofs.Hulls.{hull_of-left, hull_of-right}
use Rattle.mz_interval.proofs.Products.{product_of-encloses}
use Rattle.mz_operations.specs.declared.row.Arith.{Arith}
use Rattle.mz_operations.specs.declared.row.Sign.TheVariants.{Abs}
use Rattle.mz_operations.specs.declared.row.SetOp.{SetOp}
use Rattle.mz_operations.specs.declared.row.SetOp.TheVariants.{Union, Intersect, Diff, Symdiff}
use Rattle.mz_operations.specs.Views.{number_of_bool}
use Rattle.mz_operations.specs.Numbers.{computed, signed}
use Rattle.mz_operations.specs.Sets.{union, difference, combined, is_within}
use Rattle.mz_operations.specs.Bounds.{nothing, arith_ends, sign_ends, card_ends, combined_upper}
use Rattle.mz_operations.specs.Laws.{IsSet, IsPart}
use Rattle.mz_operations.proofs.Arithmetic.{sum_in, arith_encloses, sign_encloses}
use Rattle.mz_operations.proofs.CardBounds.{card_encloses}
use Rattle.mz_operations.proofs.SetBounds.{union_left, union_right, part_part, part_same, set_encloses}
use Rattle.mz_operations.proofs.SetMembers.{union_set, intersection_set, difference_set}
use Rattle.fz_program.specs.declared.program.Domain.{Domain}
use Rattle.fz_program.specs.declared.program.Domain.TheVariants.{Bool as Truths, Ints as Integers, SetOf}
use Rattle.fz_program.specs.Arguments.{Plain}
use Rattle.fz_program.specs.Values.{Value, Values, number, set, number_in, set_in, element_at, is_one, linear}
use Rattle.fz_program.specs.Flat.{Variable, IsWellFormedVariable, plain_value, IsInDomain, AreInDomains}
use Rattle.fz_build.specs.Bounds.{ends_of, upper_of, joined, hull_reached, element_ends, plus, times, sum_ends, arith_by, magnitude_by, negative, union_reached, whole}
use Rattle.fz_build.proofs.InputValues.{each_there}
use Rattle.fz_build.proofs.InputValues.{ends_enclose, LiesInSet, upper_holds, IsCanonical, IsFlag}

-- ---- domains of integers

pub range_has : (lo hi x : ℤ) → lo ≤ℤ x → x ≤ℤ hi → Has (range_of lo hi) x
range_has lo hi x p q = rw (int_le_true lo hi (omega (arith, ints))) (inl (p, q))

pub in_whole : (o : Option Ends) (d : Domain) (x : ℤ) → whole o ≡ Some d → ((e : Ends) → o ≡ Some e → Encloses e x) → IsInDomain d (number x)
in_whole None d x h f = absurd (cc)
in_whole (Some e) d x h f =
    let is : Integers (range_of e.0 e.1) ≡ d = cc in
    let i = f e refl in
    subst (λ (k : Domain). IsInDomain k (number x)) is (range_has e.0 e.1 x i.from i.to)

some_same : {A : Type 0} (x y : A) → Some x ≡ Some y → x ≡ y
some_same x y h = cc

pub from_limit : (e g : Ends) → if_in_limit e ≡ Some g → e ≡ g
from_limit e g h = by (is_number e.0 && is_number e.1) h
  where
    by : (t : Bool) → cond t (Some e) None ≡ Some g → e ≡ g
    by true k = some_same e g k
    by false k = absurd (cc)

pub from_interval : (e g : Ends) → if_interval e ≡ Some g → e ≡ g
from_interval e g h = by (int_le e.0 e.1) h
  where
    by : (t : Bool) → cond t (if_in_limit e) None ≡ Some g → e ≡ g
    by true k = from_limit e g k
    by false k = absurd (cc)

-- bounds that are there enclose the number
abbrev pub Surrounds : Option Ends → ℤ → Type 0
Surrounds o x = (e : Ends) → o ≡ Some e → Encloses e x

pub interval_surrounds : (e : Ends) (x : ℤ) → Encloses e x → Surrounds (if_interval e) x
interval_surrounds e x h = λ g k. subst (λ (b : Ends). Encloses b x) (from_interval e g k) h

limit_surrounds : (e : Ends) (x : ℤ) → Encloses e x → Surrounds (if_in_limit e) x
limit_surrounds e x h = λ g k. subst (λ (b : Ends). Encloses b x) (from_limit e g k) h

pub arith_surrounds : (op : Arith) (o p : Option Ends) (x y n : ℤ) → Surrounds o x → Surrounds p y → computed op x y ≡ Some n → Surrounds (arith_by op o p) n
arith_surrounds op None p x y n f g h = λ e k. absurd (cc)
arith_surrounds op (Some e) None x y n f g h = λ e k. absurd (cc)
arith_surrounds op (Some e) (Some b) x y n f g h = limit_surrounds (arith_ends op e b) n (arith_encloses op e b x y n (f e refl) (g b refl) h)

pub magnitude_surrounds : (o : Option Ends) (x : ℤ) → Surrounds o x → Surrounds (magnitude_by o) (signed Abs x)
magnitude_surrounds None x f = λ e k. absurd (cc)
magnitude_surrounds (Some e) x f = limit_surrounds (sign_ends Abs e) (signed Abs x) (sign_encloses Abs e x (f e refl))

pub plus_surrounds : (o p : Option Ends) (x y : ℤ) → Surrounds o x → Surrounds p y → Surrounds (plus o p) (x +ℤ y)
plus_surrounds None p x y f g = λ e k. absurd (cc)
plus_surrounds (Some e) None x y f g = λ e k. absurd (cc)
plus_surrounds (Some e) (Some b) x y f g = limit_surrounds (sum_of e b) (x +ℤ y) (sum_in e b x y (f e refl) (g b refl))

times_surrounds : (o p : Option Ends) (x y : ℤ) → Surrounds o x → Surrounds p y → Surrounds (times o p) (x *ℤ y)
times_surrounds None p x y f g = λ e k. absurd (cc)
times_surrounds (Some e) None x y f g = λ e k. absurd (cc)
times_surrounds (Some e) (Some b) x y f g = limit_surrounds (product_of e b) (x *ℤ y) (product_of-encloses e b x y (f e refl) (g b refl))

pub negative_surrounds : (o : Option Ends) (x : ℤ) → Surrounds o x → Surrounds (negative o) (neg_ℤ x)
negative_surrounds None x f = λ e k. absurd (cc)
negative_surrounds (Some e) x f = λ g k.
    let is : negation_of e ≡ g = some_same (negation_of e) g k in
    let i = f e refl in
    subst (λ (b : Ends). Encloses b (neg_ℤ x)) is (record { from = omega (arith, ints, i.to); to = omega (arith, ints, i.from) })

-- a choice by a test has what both of its cases have
either : {A : Type 0} (P : A → Type 0) (t : Bool) (x y : A) → P x → P y → P (cond t x y)
either P true x y p q = p
either P false x y p q = q

-- ---- the inputs of a program

-- where an element that there is comes from
record Comes {A : Type 0} (f : Values) (view : Value → A) (ps : List Plain) (i : ℤ) (x : A) : Type 0 where
  place : ℕ
  plain : Plain
  stands : slice_get ps place ≡ Some plain
  value : view (plain_value f plain) ≡ x
  at : pos 1 +ℤ pos place ≡ i

module _ (vs : List Variable) (f : Values) (w : AllByRecursion IsWellFormedVariable vs) (d : AreInDomains vs f) where
  abbrev Number : Plain → ℤ
  Number p = number_in (plain_value f p)

  -- the sum of the products lies in its bounds, where what was summed before did
  pub sum_surrounds : (cs xs : List Plain) (acc : Option Ends) (s : ℤ) → Surrounds acc s → Surrounds (sum_ends vs acc cs xs) (s +ℤ linear (map number_in (map (plain_value f) cs)) (map number_in (map (plain_value f) xs)))
  unfolding sum_ends linear
  sum_surrounds [] xs acc s h = λ e k. let i = h e k in record { from = omega (arith, ints, i.from); to = omega (arith, ints, i.to) }
  sum_surrounds (c ∷ cs) [] acc s h = λ e k. let i = h e k in record { from = omega (arith, ints, i.from); to = omega (arith, ints, i.to) }
  sum_surrounds (c ∷ cs) (x ∷ xs) acc s h = λ e k.
      let next = plus acc (times (if_interval (ends_of vs c)) (if_interval (ends_of vs x))) in
      let product : Surrounds (times (if_interval (ends_of vs c)) (if_interval (ends_of vs x))) (Number c *ℤ Number x) =
      times_surrounds (if_interval (ends_of vs c)) (if_interval (ends_of vs x)) (Number c) (Number x) (interval_surrounds (ends_of vs c) (Number c) (ends_enclose vs f c w d)) (interval_surrounds (ends_of vs x) (Number x) (ends_enclose vs f x w d)) in
      let i = sum_surrounds cs xs next (s +ℤ (Number c *ℤ Number x)) (plus_surrounds acc _ s (Number c *ℤ Number x) h product) e k in
      record { from = omega (arith, ints, i.from); to = omega (arith, ints, i.to) }

  -- ---- elements

  abbrev Inside : Option Ends → ℤ → Type 0
  Inside o x = Encloses (unwrap_or o nothing) x

  joined_new : (o : Option Ends) (e : Ends) (x : ℤ) → Encloses e x → Encloses (joined o e) x
  joined_new None e x h = h
  joined_new (Some acc) e x h = hull_of-right acc e x h

  -- what was reached stays
  hull_keeps : (ps : List Plain) (index : Ends) (place : ℤ) (acc : Ends) (x : ℤ) → Encloses acc x → Inside (hull_reached vs index place (Some acc) ps) x
  unfolding hull_reached
  hull_keeps [] index place acc x h = h
  hull_keeps (p ∷ ps) index place acc x h =
      either (λ o. Inside (hull_reached vs index (place +ℤ pos 1) o ps) x) (is_within index place) (Some (hull_of acc (ends_of vs p))) (Some acc)
      (hull_keeps ps index (place +ℤ pos 1) (hull_of acc (ends_of vs p)) x (hull_of-left acc (ends_of vs p) x h))
      (hull_keeps ps index (place +ℤ pos 1) acc x h)

  within_is : (index : Ends) (i : ℤ) → Encloses index i → is_within index i ≡ true
  within_is index i h = and_from (int_le index.0 i) (int_le i index.1) (int_le_true index.0 i h.from) (int_le_true i index.1 h.to)

  hull_has : (ps : List Plain) (index : Ends) (place : ℤ) (acc : Option Ends) (k : ℕ) (p : Plain) (i : ℤ) → slice_get ps k ≡ Some p → place +ℤ pos k ≡ i → Encloses index i → Inside (hull_reached vs index place acc ps) (Number p)
  unfolding hull_reached
  hull_has [] index place acc k p i h e r = absurd (cc)
  hull_has (q ∷ ps) index place acc zero p i h e r =
      let same : q ≡ p = some_same q p h in
      let here : place ≡ i = omega (arith, ints, e) in
      let inside : Inside (hull_reached vs index (place +ℤ pos 1) (Some (joined acc (ends_of vs q))) ps) (Number q) = hull_keeps ps index (place +ℤ pos 1) (joined acc (ends_of vs q)) (Number q) (joined_new acc (ends_of vs q) (Number q) (ends_enclose vs f q w d)) in
      subst (λ o. Inside (hull_reached vs index place acc (q ∷ ps)) (Number o)) same
      (subst (λ t. Inside (hull_reached vs index (place +ℤ pos 1) (cond t (Some (joined acc (ends_of vs q))) acc) ps) (Number q)) (sym (within_is index place (subst (Encloses index) (sym here) r))) inside)
  hull_has (q ∷ ps) index place acc (suc k) p i h e r =
      hull_has ps index (place +ℤ pos 1) (cond (is_within index place) (Some (joined acc (ends_of vs q))) acc) k p i h (omega (arith, ints, e)) r

  found : {A : Type 0} (view : Value → A) (ps : List Plain) (k : ℕ) (x : A) → slice_get (map view (map (plain_value f) ps)) k ≡ Some x → Comes f view ps (pos 1 +ℤ pos k) x
  found view [] k x h = absurd (cc)
  found view (p ∷ ps) zero x h = record { place = 0; plain = p; stands = refl; value = some_same _ _ h; at = refl }
  found view (p ∷ ps) (suc k) x h =
      let c = found view ps k x h in
      record { place = suc c.place; plain = c.plain; stands = c.stands; value = c.value; at = omega (arith, ints, c.at) }

  comes : {A : Type 0} (view : Value → A) (ps : List Plain) (i : ℤ) (x : A) → element_at (map view (map (plain_value f) ps)) i ≡ Some x → Comes f view ps i x
  comes view ps (pos zero) x h = absurd (cc)
  comes view ps (pos (suc k)) x h = let c = found view ps k x h in record { place = c.place; plain = c.plain; stands = c.stands; value = c.value; at = omega (arith, ints, c.at) }
  comes view ps (negsuc k) x h = absurd (cc)

  pub element_encloses : (ps : List Plain) (index : Ends) (i n : ℤ) → Encloses index i → element_at (map number_in (map (plain_value f) ps)) i ≡ Some n → Encloses (element_ends vs index ps) n
  element_encloses ps index i n r h =
      let c = comes number_in ps i n h in
      subst (Encloses (element_ends vs index ps)) c.value (hull_has ps index (pos 1) None c.place c.plain i c.stands c.at r)

  pub element_flag : (ps : List Plain) (i n : ℤ) → AllByRecursion (λ p. IsFlag (Number p)) ps → element_at (map number_in (map (plain_value f) ps)) i ≡ Some n → IsFlag n
  element_flag ps i n a h =
      let c = comes number_in ps i n h in
      subst IsFlag c.value (each_there (λ p. IsFlag (Number p)) ps c.place c.plain c.stands a)

  -- ---- sets

  abbrev Uppers : List Plain → Type 0
  Uppers ps = AllByRecursion (λ p. LiesInSet (upper_of vs p) (set_in (plain_value f p))) ps

  union_keeps : (ps : List Plain) (index : Ends) (place : ℤ) (acc : List Range) → IsSet acc → Uppers ps → IsPart acc (union_reached vs index place acc ps)
  unfolding union_reached
  union_keeps [] index place acc s a = part_same acc
  union_keeps (p ∷ ps) index place acc s a =
      let wider = union acc (upper_of vs p) in
      either (λ more. IsPart acc (union_reached vs index (place +ℤ pos 1) more ps)) (is_within index place) wider acc
      (part_part acc wider (union_reached vs index (place +ℤ pos 1) wider ps) (union_left acc (upper_of vs p) s a.0.upper) (union_keeps ps index (place +ℤ pos 1) wider (union_set acc (upper_of vs p) s a.0.upper) a.1))
      (union_keeps ps index (place +ℤ pos 1) acc s a.1)

  acc_set : (t : Bool) (acc u : List Range) → IsSet acc → IsSet u → IsSet (cond t (union acc u) acc)
  acc_set true acc u s k = union_set acc u s k
  acc_set false acc u s k = s

  union_has : (ps : List Plain) (index : Ends) (place : ℤ) (acc : List Range) (k : ℕ) (p : Plain) (i : ℤ) → IsSet acc → Uppers ps → slice_get ps k ≡ Some p → place +ℤ pos k ≡ i → Encloses index i → IsPart (upper_of vs p) (union_reached vs index place acc ps)
  unfolding union_reached
  union_has [] index place acc k p i s a h e r = absurd (cc)
  union_has (q ∷ ps) index place acc zero p i s a h e r =
      let same : q ≡ p = some_same q p h in
      let here : place ≡ i = omega (arith, ints, e) in
      let more = union_set acc (upper_of vs q) s a.0.upper in
      let inside : IsPart (upper_of vs q) (union_reached vs index (place +ℤ pos 1) (union acc (upper_of vs q)) ps) =
      part_part (upper_of vs q) (union acc (upper_of vs q)) _ (union_right acc (upper_of vs q) s a.0.upper) (union_keeps ps index (place +ℤ pos 1) (union acc (upper_of vs q)) more a.1) in
      subst (λ o. IsPart (upper_of vs o) (union_reached vs index place acc (q ∷ ps))) same
      (subst (λ t. IsPart (upper_of vs q) (union_reached vs index (place +ℤ pos 1) (cond t (union acc (upper_of vs q)) acc) ps)) (sym (within_is index place (subst (Encloses index) (sym here) r))) inside)
  union_has (q ∷ ps) index place acc (suc k) p i s a h e r =
      union_has ps index (place +ℤ pos 1) (cond (is_within index place) (union acc (upper_of vs q)) acc) k p i (acc_set (is_within index place) acc (upper_of vs q) s a.0.upper) a.1 h (omega (arith, ints, e)) r

  uppers : (ps : List Plain) → AllByRecursion IsCanonical ps → Uppers ps
  uppers [] a = tt
  uppers (p ∷ ps) a = (upper_holds vs f p w d a.0, uppers ps a.1)

  -- an element is a set that lies in the union
  pub set_element_in : (ps : List Plain) (index : Ends) (i : ℤ) (t : List Range) → AllByRecursion IsCanonical ps → Encloses index i → element_at (map set_in (map (plain_value f) ps)) i ≡ Some t → IsInDomain (SetOf (union_reached vs index (pos 1) [] ps)) (set t)
  set_element_in ps index i t a r h =
      let c = comes set_in ps i t h in
      let all = uppers ps a in
      let there = each_there (λ p. LiesInSet (upper_of vs p) (set_in (plain_value f p))) ps c.place c.plain c.stands all in
      let part = union_has ps index (pos 1) [] c.place c.plain i (tt, tt) all c.stands c.at r in
      subst (λ s. IsInDomain (SetOf (union_reached vs index (pos 1) [] ps)) (set s)) c.value (there.set.0, λ x m. part.inside x (there.part.inside x m))

-- ---- operations on sets

combined_set : (op : SetOp) (s t : List Range) → IsSet s → IsSet t → IsSet (combined op s t)
unfolding combined
combined_set Union s t a b = union_set s t a b
combined_set Intersect s t a b = intersection_set s t a b
combined_set Diff s t a b = difference_set s t a b
combined_set Symdiff s t a b = union_set (difference s t) (difference t s) (difference_set s t a b) (difference_set t s b a)

pub combined_in : (op : SetOp) (u v s t : List Range) → LiesInSet u s → LiesInSet v t → IsInDomain (SetOf (combined_upper op u v)) (set (combined op s t))
combined_in op u v s t a b = ((combined_set op s t a.set b.set).0, λ x m. (set_encloses op s t u v a.set b.set a.upper b.upper a.part b.part).inside x m)

pub card_surrounds : (u s : List Range) → LiesInSet u s → Surrounds (if_interval (card_ends u)) (pos (cardinality s))
card_surrounds u s a = interval_surrounds (card_ends u) (pos (cardinality s)) (card_encloses s u a.set.0 a.upper.0 a.part)

-- ---- truth values

pub truth_in : (b : Bool) → IsInDomain Truths (number (number_of_bool b))
truth_in true = (omega (arith, ints), omega (arith, ints))
truth_in false = (omega (arith, ints), omega (arith, ints))

pub flag_same : (n : ℤ) → IsFlag n → number_of_bool (is_one n) ≡ n
flag_same (pos zero) h = refl
flag_same (pos (suc zero)) h = refl
flag_same (pos (suc (suc k))) h = let t = h.to in absurd (omega (arith, ints, t))
flag_same (negsuc k) h = let t = h.from in absurd (omega (arith, ints, t))
