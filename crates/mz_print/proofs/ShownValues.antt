-- Values that lie in the domains of printable forms can be printed.
use Rattle.std.proofs.Common.{◌≡◌, ◌∙◌, ◌⊎◌, ℕ, ◌≤◌, List, [], ◌∷◌, length, Bool, true, false, ◌&&◌, ◌||◌, ℤ, pos, ◌≤ℤ◌, ◌<ℤ◌, Option, Some, None, refl, sym, ap, inl, inr, arith, rules, subst}
use Rattle.std.specs.Prelude.{int_le}
use Rattle.std.specs.List.{AllByRecursion, list_all}
use Rattle.std.proofs.lemmas.Bool.{false≢true, and_parts}
use Rattle.std.proofs.lemmas.Int.{ints}
use Rattle.mz_value.specs.declared.value.ShapeBase.{ShapeBase}
use Rattle.mz_value.specs.declared.value.ShapeBase.TheVariants as base
use Rattle.mz_value.specs.Ranges.{Range, AreCanonical, AreInLimit, Has, least}
use Rattle.mz_value.specs.StepsWalks.{common, gaps}
use Rattle.mz_value.proofs.Gaps.{difference_members}
use Rattle.mz_value.specs.Contents.{Content, Contents, contents, bool, int, case, set, absent, text, array}
use Rattle.mz_value.specs.Shown.{Names, names_of, IsEnum, IsCase as IsNumberOfCase, AreCases, IsShowable, AreShowable, IsShowableSet}
use Rattle.mz_operations.specs.Views.{items_in}
use Rattle.mz_meaning.specs.Operations.{has_case}
use Rattle.fz_items.specs.Forms.{Form}
use Rattle.fz_items.specs.Items.{has, is_none, is_within, first_domain}
use Rattle.soln_reader.specs.Blocks.{only, whole}
use Rattle.soln_reader.specs.Values.{IsTruth, IsNumber, IsCase, IsSetOf, IsBased, IsElement, OneEach, none_each, one_each, domains_by, domains_of, IsValue, AreValues, no_values, values}
use Rattle.mz_print.specs.Printable.{IfTrue, IsSoundSet, HasSoundSets, HasFewDims, CanPrint, HasCases, AreOfCases, HasCasesAlone, HasFewRanges, IsPrintable, ArePrintable, PrintsValues}
use Rattle.mz_print.proofs.ItemLists.{items_in_contents}

-- ---- a number of a domain of cases

one_or_more : (labels : List (List ℕ)) (r : Range) (rs : List Range) (x : ℤ) (t : Bool) → (int_le r.0 x && int_le x r.1) ≡ t → AreCases labels (r ∷ rs) → (has rs x ≡ true → IsNumberOfCase labels x) → (t || has rs x) ≡ true → IsNumberOfCase labels x
one_or_more labels r rs x true is cases rest e =
    let parts = and_parts (int_le r.0 x) (int_le x r.1) is in
    (omega (arith, ints, parts, (cases.0).0, (cases.0).1), omega (arith, ints, parts, (cases.0).0, (cases.0).1))
one_or_more labels r rs x false is cases rest e = rest e

number_of_case : (labels : List (List ℕ)) (d : List Range) (x : ℤ) → AreCases labels d → has d x ≡ true → IsNumberOfCase labels x
number_of_case labels [] x cases e = absurd (false≢true e)
number_of_case labels (r ∷ rs) x cases e = one_or_more labels r rs x (int_le r.0 x && int_le x r.1) refl cases (number_of_case labels rs x cases.1) e

member_of_case : (labels : List (List ℕ)) (d : List Range) (x : ℤ) → AreCases labels d → Has d x → IsNumberOfCase labels x
member_of_case labels [] x cases h = absurd h
member_of_case labels (r ∷ rs) x cases (inl h) = (omega (arith, ints, h, (cases.0).0, (cases.0).1), omega (arith, ints, h, (cases.0).0, (cases.0).1))
member_of_case labels (r ∷ rs) x cases (inr h) = member_of_case labels rs x cases.1 h

-- ---- a test of a domain

all_cases : (labels : List (List ℕ)) (rs : List Range) → list_all (λ r. has_case labels r.0 && has_case labels r.1) rs ≡ true → AreCases labels rs
all_cases labels [] e = tt
all_cases labels (r ∷ rs) e =
    let parts = and_parts (has_case labels r.0 && has_case labels r.1) (list_all (λ q. has_case labels q.0 && has_case labels q.1) rs) e in
    let ends = and_parts (has_case labels r.0) (has_case labels r.1) parts.0 in
    ((is_case labels r.0 ends.0, is_case labels r.1 ends.1), all_cases labels rs parts.1)
  where
    is_case : (labels : List (List ℕ)) (k : ℤ) → has_case labels k ≡ true → IsNumberOfCase labels k
    is_case labels k e =
        let both = and_parts (int_le (pos 1) k) (int_le k (pos (length labels))) e in
        (omega (arith, ints, both), omega (arith, ints, both))

pub domain_told : (labels : List (List ℕ)) (d ranges : List Range) (t : Bool) → ranges ≡ d → AreCanonical d → AreInLimit d → t ≡ list_all (λ r. has_case labels r.0 && has_case labels r.1) ranges → IfTrue t (HasCases labels d)
domain_told labels d ranges true is canonical limits e = record { canonical = canonical; limits = limits; cases = subst (λ rs. AreCases labels rs) is (all_cases labels ranges (sym e)) }
domain_told labels d ranges false is canonical limits e = tt

-- ---- a set within such a domain

none_has : (s : List Range) (x : ℤ) → is_none s ≡ true → Has s x → ⊥
none_has [] x e h = h
none_has (r ∷ rs) x e h = false≢true e

-- of what isn't in the domain nothing is in the set
is_inside : (s d : List Range) (x : ℤ) → AreCanonical s × AreInLimit s → AreCanonical d × AreInLimit d → is_within s d ≡ true → Has s x → (Has d x → ⊥) → ⊥
unfolding is_within
is_inside s d x sound_s sound_d e h out = none_has (common s (gaps least d)) x e ((difference_members s d sound_s.0 sound_s.1 sound_d.0 sound_d.1 x).1 (h, out))

at_least_one : (n x : ℤ) (t : Bool) → int_le n x ≡ t → ((x <ℤ n) → ⊥) → n ≤ℤ x
at_least_one n x true e low = omega (arith, ints, e)
at_least_one n x false e low = absurd (low (omega (arith, ints, e)))

below_not : (a b : ℤ) → a <ℤ b → b ≤ℤ a → ⊥
below_not a b h k = omega (arith, ints, h, k)

member_within : (labels : List (List ℕ)) (s d : List Range) (x : ℤ) → HasCases labels d → AreCanonical s × AreInLimit s → is_within s d ≡ true → Has s x → IsNumberOfCase labels x
member_within labels s d x cases sound e h =
    let inside : (Has d x → ⊥) → ⊥ = is_inside s d x sound (cases.canonical, cases.limits) e h in (
      at_least_one (pos 1) x (int_le (pos 1) x) refl (λ low. inside (λ k. below_not x (pos 1) low (member_of_case labels d x cases.cases k).0)),
      at_least_one x (pos (length labels)) (int_le x (pos (length labels))) refl (λ high. inside (λ k. below_not (pos (length labels)) x high (member_of_case labels d x cases.cases k).1)),
    )

ends_are_cases : (labels : List (List ℕ)) (s : List Range) → AreCanonical s → ((x : ℤ) → Has s x → IsNumberOfCase labels x) → AreCases labels s
ends_are_cases labels [] canonical all = tt
ends_are_cases labels (r ∷ rs) canonical all = (
  (all r.0 (inl (omega (arith, ints), canonical.0)), all r.1 (inl (canonical.0, omega (arith, ints)))),
  ends_are_cases labels rs canonical.2 (λ x h. all x (inr h)),
)

within_cases : (labels : List (List ℕ)) (d s : List Range) → HasCases labels d → AreCanonical s × AreInLimit s → is_within s d ≡ true → AreCases labels s
within_cases labels d s cases sound e = ends_are_cases labels s sound.0 (λ x h. member_within labels s d x cases sound e h)

-- ---- elements

truth_shown : (names : Names) (d : List Range) (x : Content) → IsTruth d x → IsShowable names x
truth_shown names d (bool b) v = tt
truth_shown names d (int n) v = absurd v
truth_shown names d (case f k) v = absurd v
truth_shown names d (set o rs) v = absurd v
truth_shown names d absent v = absurd v
truth_shown names d (text t) v = absurd v
truth_shown names d (array index ys) v = absurd v

number_shown : (names : Names) (d : List Range) (x : Content) → IsNumber d x → IsShowable names x
number_shown names d (bool b) v = absurd v
number_shown names d (int n) v = tt
number_shown names d (case f k) v = absurd v
number_shown names d (set o rs) v = absurd v
number_shown names d absent v = absurd v
number_shown names d (text t) v = absurd v
number_shown names d (array index ys) v = absurd v

case_shown : (names : Names) (e : ℕ) (d : List Range) (x : Content) → AreOfCases names e (d ∷ []) → IsCase e d x → IsShowable names x
case_shown names e d (bool b) h v = absurd v
case_shown names e d (int n) h v = absurd v
case_shown names e d (case f k) h v = subst (λ g. IsEnum names g × IsNumberOfCase (names_of names g) k) (sym v.0) (h.0, number_of_case (names_of names e) d k (h.1).0.cases v.1)
case_shown names e d (set o rs) h v = absurd v
case_shown names e d absent h v = absurd v
case_shown names e d (text t) h v = absurd v
case_shown names e d (array index ys) h v = absurd v

integers_shown : (names : Names) (d : List Range) (x : Content) → IsSetOf None d x → IsShowable names x
integers_shown names d (bool b) v = absurd v
integers_shown names d (int n) v = absurd v
integers_shown names d (case f k) v = absurd v
integers_shown names d (set o rs) v = subst (λ p. IsShowableSet names p rs) (sym v.0) tt
integers_shown names d absent v = absurd v
integers_shown names d (text t) v = absurd v
integers_shown names d (array index ys) v = absurd v

cases_shown : (names : Names) (e : ℕ) (d : List Range) (x : Content) → AreOfCases names e (d ∷ []) → IsSetOf (Some e) d x → IsSoundSet x → IsShowable names x
cases_shown names e d (bool b) h v sound = absurd v
cases_shown names e d (int n) h v sound = absurd v
cases_shown names e d (case f k) h v sound = absurd v
cases_shown names e d (set o rs) h v sound = subst (λ p. IsShowableSet names p rs) (sym v.0) (h.0, within_cases (names_of names e) d rs (h.1).0 sound v.1)
cases_shown names e d absent h v sound = absurd v
cases_shown names e d (text t) h v sound = absurd v
cases_shown names e d (array index ys) h v sound = absurd v

based_shown : (names : Names) (k : ShapeBase) (d : List Range) (x : Content) → HasCasesAlone names k (d ∷ []) → IsBased k d x → IsSoundSet x → IsShowable names x
based_shown names base.Bool d x h v sound = truth_shown names d x v
based_shown names base.Int d x h v sound = number_shown names d x v
based_shown names (base.Enum e) d x h v sound = case_shown names e d x h v
based_shown names base.SetInt d x h v sound = integers_shown names d x v
based_shown names (base.SetEnum e) d x h v sound = cases_shown names e d x h v sound

element_shown : (names : Names) (f : Form) (d : List Range) (x : Content) → HasCasesAlone names f.base (d ∷ []) → IsElement f d x → IsSoundSet x → IsShowable names x
element_shown names f d x h (inl v) sound = based_shown names f.base d x h v sound
element_shown names f d x h (inr v) sound = subst (λ y. IsShowable names y) (sym v.1) tt

-- domains, the first and those after it

first_alone : (names : Names) (k : ShapeBase) (d : List Range) (ds : List (List Range)) → HasCasesAlone names k (d ∷ ds) → HasCasesAlone names k (d ∷ [])
first_alone names base.Bool d ds h = tt
first_alone names base.Int d ds h = tt
first_alone names (base.Enum e) d ds h = (h.0, ((h.1).0, tt))
first_alone names base.SetInt d ds h = tt
first_alone names (base.SetEnum e) d ds h = (h.0, ((h.1).0, tt))

others_alone : (names : Names) (k : ShapeBase) (d : List Range) (ds : List (List Range)) → HasCasesAlone names k (d ∷ ds) → HasCasesAlone names k ds
others_alone names base.Bool d ds h = tt
others_alone names base.Int d ds h = tt
others_alone names (base.Enum e) d ds h = (h.0, (h.1).1)
others_alone names base.SetInt d ds h = tt
others_alone names (base.SetEnum e) d ds h = (h.0, (h.1).1)

no_cases : (labels : List (List ℕ)) → HasCases labels []
no_cases labels = record { canonical = tt; limits = tt; cases = tt }

none_alone : (names : Names) (k : ShapeBase) → HasCasesAlone names k [] → HasCasesAlone names k ([] ∷ [])
none_alone names base.Bool h = tt
none_alone names base.Int h = tt
none_alone names (base.Enum e) h = (h.0, (no_cases (names_of names e), tt))
none_alone names base.SetInt h = tt
none_alone names (base.SetEnum e) h = (h.0, (no_cases (names_of names e), tt))

scalar_alone : (names : Names) (k : ShapeBase) (ds : List (List Range)) → HasCasesAlone names k ds → HasCasesAlone names k (first_domain ds ∷ [])
scalar_alone names k [] h = none_alone names k h
scalar_alone names k (d ∷ ds) h = first_alone names k d ds h

elements_shown : (names : Names) (f : Form) (ds : List (List Range)) (xs : List Content) → HasCasesAlone names f.base ds → OneEach (IsElement f) ds xs → AllByRecursion IsSoundSet xs → AreShowable names (contents xs)
elements_shown names f ds xs h none_each sound = tt
elements_shown names f ds xs h (one_each {d = d} {x = x} {ds = es} {xs = ys} v vs) sound = (
  element_shown names f d x (first_alone names f.base d es h) v sound.0,
  elements_shown names f es ys (others_alone names f.base d es h) vs sound.1,
)

-- ---- values

some_is : {A : Type 0} (x y : A) → Some x ≡ Some y → x ≡ y
some_is {A} x y e = ap (λ o. or_first o) e
  where
    or_first : Option A → A
    or_first None = x
    or_first (Some z) = z

no_array : (k : ShapeBase) (d : List Range) (index : List Range) (ys : Contents) → IsBased k d (array index ys) → ⊥
no_array base.Bool d index ys v = v
no_array base.Int d index ys v = v
no_array (base.Enum e) d index ys v = v
no_array base.SetInt d index ys v = v
no_array (base.SetEnum e) d index ys v = v

not_absent : (index : List Range) (ys : Contents) → array index ys ≡ absent → ⊥
not_absent index ys e = cc

element_few : (f : Form) (d : List Range) (x : Content) → IsElement f d x → HasFewDims x
element_few f d (bool b) v = tt
element_few f d (int n) v = tt
element_few f d (case e k) v = tt
element_few f d (set o rs) v = tt
element_few f d absent v = tt
element_few f d (text t) v = tt
element_few f d (array index ys) (inl v) = absurd (no_array f.base d index ys v)
element_few f d (array index ys) (inr v) = absurd (not_absent index ys v.1)

sound_scalar : (x : Content) → HasSoundSets x → IsSoundSet x
sound_scalar (bool b) h = tt
sound_scalar (int n) h = tt
sound_scalar (case e k) h = tt
sound_scalar (set o rs) h = h
sound_scalar absent h = tt
sound_scalar (text t) h = tt
sound_scalar (array index ys) h = tt

whole_printed : (names : Names) (f : Form) (o : Option (List Range)) (ds : List (List Range)) (xs : List Content) (x : Content) → HasCasesAlone names f.base ds → HasFewRanges o → OneEach (IsElement f) (domains_by o ds) xs → whole o xs ≡ Some x → CanPrint names x
whole_printed names f None ds xs x h few (one_each {x = y} v none_each) is =
    let alone = scalar_alone names f.base ds h in
    subst (λ z. CanPrint names z) (some_is y x is) (record {
      few = element_few f (first_domain ds) y v;
      shown = λ s. element_shown names f (first_domain ds) y alone v (sound_scalar y s);
    })
whole_printed names f (Some index) ds xs x h few fit is =
    subst (λ z. CanPrint names z) (some_is (array index (contents xs)) x is) (record {
      few = few;
      shown = λ s. elements_shown names f ds xs h fit (subst (λ ys. AllByRecursion IsSoundSet ys) (items_in_contents xs) s);
    })

value_printed : (names : Names) (f : Form) (x : Content) → IsPrintable names f → IsValue f x → CanPrint names x
value_printed names f x p v = whole_printed names f f.index f.domains v.elements x p.cases p.few v.fit v.is

pub prints_values : PrintsValues
prints_values names fs xs p no_values = tt
prints_values names fs xs p (values {f = f} {x = x} {fs = gs} {xs = ys} v vs) = (value_printed names f x p.0 v, prints_values names gs ys p.1 vs)
