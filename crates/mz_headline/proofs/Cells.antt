-- One cell: its parts' values fit exactly where what they stand for lies in its domain.
use Rattle.std.proofs.Common.{◌≡◌, ◌∙◌, ℕ, zero, suc, ℤ, pos, Bool, true, false, not, ◌&&◌, List, [], ◌∷◌, Option, Some, None, nat_eq, eqb-true, eq-eqb, refl, sym, ap, subst, inl, inr, ◌⊎◌, arith, if◌then◌else◌}
use Rattle.std.proofs.lemmas.Bool.{and_parts}
use Rattle.std.proofs.lemmas.Int.{ints}
use Rattle.mz_value.specs.Ranges.{Range, AreCanonical, Has}
use Rattle.mz_value.specs.Contents.{Content}
use Rattle.mz_value.specs.Contents as values
use Rattle.mz_core.specs.declared.types.Base.{Base}
use Rattle.mz_core.specs.declared.types.Base.TheVariants as base
use Rattle.mz_operations.specs.Views.{number_of_bool}
use Rattle.mz_operations.specs.declared.row.Side.TheVariants.{Least}
use Rattle.mz_operations.specs.Sets.{contains, end_of, is_empty_set}
use Rattle.mz_operations.proofs.SetBounds.{contains_has}
use Rattle.mz_arena.specs.Values.{Values}
use Rattle.mz_meaning.specs.Domains.{Domain, lies_in, holds_bool, holds_int, holds_case, holds_set, is_part}
use Rattle.mz_instance.specs.Parts.{Sort, Whole, Truth, Subset, Part, is_subset_sort, sort_of, truths, parts_of, FitsSort, AllFit}
use Rattle.mz_instance.specs.Instance.{IsTruthOver}
use Rattle.mz_instance.specs.Contents.{is_one, content_by, option_by}
use Rattle.mz_model_meaning.specs.Decoded.{part_of, domain_parts, IsShaped, content_at, cell_content}
use Rattle.fz_program.specs.Values.{Value, number, set}
use Rattle.flat_meaning.specs.Faithful.{value_by}
use Rattle.mz_headline.proofs.Sets.{and_true, has_contains, some_not_empty, part_test, test_part}

-- ---- what fits lies in the domain

truth_there : (b : Bool) → contains truths (number_of_bool b) ≡ true
unfolding contains
truth_there true = refl
truth_there false = refl

truth_back : (b : Bool) → is_one (number_of_bool b) ≡ b
truth_back true = refl
truth_back false = refl

value_lies : (d : Domain) (b : Base) (n : ℤ) (s : List Range) → d.base ≡ b → IsShaped d → FitsSort (sort_of b) d.set n s → lies_in d (content_by b n s) ≡ true
unfolding lies_in
value_lies d base.Bool n s e shaped fits =
    let over : d.set ≡ truths = subst (λ b. IsTruthOver (sort_of b) d.set) e shaped.part.truth in
    ap (λ b. holds_bool b d.set (is_one n)) e ∙ ap (λ u. contains u (number_of_bool (is_one n))) over ∙ truth_there (is_one n)
value_lies d base.Int n s e shaped fits = ap (λ b. holds_int b d.set n) e ∙ has_contains d.set n fits
value_lies d (base.Enum k) n s e shaped fits = ap (λ b. holds_case b d.set k n) e ∙ and_true (nat_eq k k) (contains d.set n) (eq-eqb k k refl) (has_contains d.set n fits)
value_lies d base.SetInt n s e shaped fits = ap (λ b. holds_set b d.set None s) e ∙ part_test d.set s (shaped.part.canonical, shaped.part.limited) fits.0 fits.1
value_lies d (base.SetEnum k) n s e shaped fits = ap (λ b. holds_set b d.set (Some k) s) e ∙ and_true (nat_eq k k) (is_part d.set s) (eq-eqb k k refl) (part_test d.set s (shaped.part.canonical, shaped.part.limited) fits.0 fits.1)
value_lies d b n s e shaped fits = absurd (let shape = shaped.base in cc)

-- no set has one number for its value
pub fits_has : (b : Base) (u : List Range) (n : ℤ) (s : List Range) → is_subset_sort (sort_of b) ≡ false → FitsSort (sort_of b) u n s → Has u n
fits_has base.Bool u n s e fits = fits
fits_has base.SetInt u n s e fits = absurd (cc)
fits_has (base.SetEnum k) u n s e fits = absurd (cc)
fits_has b u n s e fits = fits

has_fits : (b : Base) (u : List Range) (n : ℤ) (s : List Range) → is_subset_sort (sort_of b) ≡ false → Has u n → FitsSort (sort_of b) u n s
has_fits base.Bool u n s e has = has
has_fits base.SetInt u n s e has = absurd (cc)
has_fits (base.SetEnum k) u n s e has = absurd (cc)
has_fits b u n s e has = has

absent_lies : (d : Domain) (n : ℤ) (s : List Range) → d.opt ≡ true → IsShaped d → FitsSort (sort_of d.base) d.set n s → lies_in d values.absent ≡ true
unfolding lies_in
absent_lies d n s opt shaped fits = rw (opt, some_not_empty d.set n (fits_has d.base d.set n s (shaped.allowed opt) fits)) refl

option_lies : (d : Domain) (there : Bool) (n : ℤ) (s : List Range) → d.opt ≡ true → IsShaped d → FitsSort (sort_of d.base) d.set n s → lies_in d (if there then content_by d.base n s else values.absent) ≡ true
option_lies d true n s opt shaped fits = value_lies d d.base n s refl shaped fits
option_lies d false n s opt shaped fits = absent_lies d n s opt shaped fits

pub cell_lies : (d : Domain) (k : ℕ) (x : Values) → IsShaped d → AllFit (domain_parts d) k x → lies_in d (cell_content d k x) ≡ true
cell_lies d k x shaped fits = by d.opt refl fits
  where
    by : (o : Bool) → d.opt ≡ o → AllFit (parts_of o (part_of d)) k x → lies_in d (content_at o d.base k x) ≡ true
    by false e fits = value_lies d d.base (x.number k) (x.set k) refl shaped fits.0
    by true e fits = option_lies d (is_one (x.number k)) (x.number (suc k)) (x.set (suc k)) e shaped fits.1.0

-- ---- what lies in the domain has codes: values of the parts that stand for it

abbrev pub number_in : Content → ℤ
number_in (values.bool b) = number_of_bool b
number_in (values.int n) = n
number_in (values.case e k) = k
number_in c = pos 0

abbrev pub set_in : Content → List Range
set_in (values.set e s) = s
set_in c = []

abbrev pub or_zero : Option ℤ → ℤ
or_zero None = pos 0
or_zero (Some n) = n

-- an absent value's number is the least of the domain
abbrev pub option_code : List Range → Content → List (ℤ × List Range)
option_code u values.absent = (pos 0, []) ∷ (or_zero (end_of Least u), []) ∷ []
option_code u c = (pos 1, []) ∷ (number_in c, set_in c) ∷ []

abbrev pub code : Bool → List Range → Content → List (ℤ × List Range)
code true u c = option_code u c
code false u c = (number_in c, set_in c) ∷ []

-- the values from the number k on are these codes
abbrev pub AreCodes : Values → ℕ → List (ℤ × List Range) → Type 0
AreCodes x k [] = Unit {0}
AreCodes x k (z ∷ zs) = (x.number k ≡ z.0) × (x.set k ≡ z.1) × AreCodes x (suc k) zs

-- where the occurrence isn't there, the value is the least of the domain
abbrev pub HasDefault : Bool → List Range → ℕ → Values → Type 0
HasDefault false u k x = Unit {0}
HasDefault true u k x = is_one (x.number k) ≡ false → end_of Least u ≡ Some (x.number (suc k))

-- a value that is not absent, and its code
record IsCode (b : Base) (u : List Range) (c : Content) : Type 0 where
  fits : FitsSort (sort_of b) u (number_in c) (set_in c)
  is : content_by b (number_in c) (set_in c) ≡ c

code_of : (d : Domain) (b : Base) (c : Content) → d.base ≡ b → IsShaped d → (c ≡ values.absent → ⊥) → lies_in d c ≡ true → IsCode b d.set c
unfolding lies_in
code_of d base.Bool (values.bool v) e shaped there lies = record { fits = contains_has d.set (number_of_bool v) (ap (λ b. holds_bool b d.set v) (sym e) ∙ lies); is = ap (λ v. values.bool v) (truth_back v) }
code_of d base.Int (values.int m) e shaped there lies = record { fits = contains_has d.set m (ap (λ b. holds_int b d.set m) (sym e) ∙ lies); is = refl }
code_of d (base.Enum k) (values.case f m) e shaped there lies =
    let both = and_parts (nat_eq k f) (contains d.set m) (ap (λ b. holds_case b d.set f m) (sym e) ∙ lies) in
    record { fits = contains_has d.set m both.1; is = ap (λ k. values.case k m) (eqb-true k f both.0) }
code_of d base.SetInt (values.set None s) e shaped there lies = record { fits = test_part d.set s (shaped.part.canonical, shaped.part.limited) (ap (λ b. holds_set b d.set None s) (sym e) ∙ lies); is = refl }
code_of d (base.SetEnum k) (values.set (Some f) s) e shaped there lies =
    let both = and_parts (nat_eq k f) (is_part d.set s) (ap (λ b. holds_set b d.set (Some f) s) (sym e) ∙ lies) in
    record { fits = test_part d.set s (shaped.part.canonical, shaped.part.limited) both.1; is = ap (λ k. values.set (Some k) s) (eqb-true k f both.0) }
code_of d b values.absent e shaped there lies = absurd (there refl)
code_of d b (values.bool v) e shaped there lies = let no = ap (λ b. holds_bool b d.set v) (sym e) ∙ lies in absurd (cc)
code_of d b (values.int m) e shaped there lies = let no = ap (λ b. holds_int b d.set m) (sym e) ∙ lies in absurd (cc)
code_of d b (values.case f m) e shaped there lies = let no = ap (λ b. holds_case b d.set f m) (sym e) ∙ lies in absurd (cc)
code_of d b (values.set o s) e shaped there lies = let no = ap (λ b. holds_set b d.set o s) (sym e) ∙ lies in absurd (cc)
code_of d b (values.text t) e shaped there lies = absurd (cc)
code_of d b (values.array ix xs) e shaped there lies = absurd (cc)

pub record IsCoded (o : Bool) (d : Domain) (c : Content) (k : ℕ) (x : Values) : Type 0 where
  pub fits : AllFit (parts_of o (part_of d)) k x
  pub is : content_at o d.base k x ≡ c
  pub default : HasDefault o d.set k x

fits_by : (r : Sort) (u : List Range) (n m : ℤ) (s t : List Range) → m ≡ n → t ≡ s → FitsSort r u n s → FitsSort r u m t
fits_by r u n m s t e f fits = subst (λ m. FitsSort r u m t) (sym e) (subst (λ t. FitsSort r u n t) (sym f) fits)

content_by_code : (b : Base) (n m : ℤ) (s t : List Range) → n ≡ m → s ≡ t → content_by b n s ≡ content_by b m t
content_by_code b n m s t e f = ap (λ n. content_by b n s) e ∙ ap (content_by b m) f

zero_has : Has truths (pos 0)
zero_has = inl (omega (arith, ints), omega (arith, ints))

one_has : Has truths (pos 1)
one_has = inl (omega (arith, ints), omega (arith, ints))

value_coded : (d : Domain) (c : Content) (k : ℕ) (x : Values) → IsShaped d → (c ≡ values.absent → ⊥) → lies_in d c ≡ true → AreCodes x k ((number_in c, set_in c) ∷ []) → IsCoded false d c k x
value_coded d c k x shaped there lies codes =
    let i = code_of d d.base c refl shaped there lies in
    record {
      fits = (fits_by (sort_of d.base) d.set (number_in c) (x.number k) (set_in c) (x.set k) codes.0 codes.1 i.fits, tt);
      is = content_by_code d.base (x.number k) (number_in c) (x.set k) (set_in c) codes.0 codes.1 ∙ i.is;
      default = tt;
    }

there_coded : (d : Domain) (c : Content) (k : ℕ) (x : Values) → IsShaped d → (c ≡ values.absent → ⊥) → lies_in d c ≡ true → AreCodes x k ((pos 1, []) ∷ (number_in c, set_in c) ∷ []) → IsCoded true d c k x
there_coded d c k x shaped there lies codes =
    let i = value_coded d c (suc k) x shaped there lies codes.2 in
    let one : is_one (x.number k) ≡ true = ap is_one codes.0 in
    record {
      fits = (subst (Has truths) (sym codes.0) one_has, i.fits);
      is = ap (λ b. if b then content_by d.base (x.number (suc k)) (x.set (suc k)) else values.absent) one ∙ i.is;
      default = λ other. absurd (cc);
    }

least_there : (u : List Range) → AreCanonical u → not (is_empty_set u) ≡ true → (end_of Least u ≡ Some (or_zero (end_of Least u))) × Has u (or_zero (end_of Least u))
unfolding end_of
least_there [] canonical some = absurd (cc)
least_there (r ∷ rs) canonical some = (refl, inl (omega (arith, ints), canonical.0))

absent_coded : (d : Domain) (k : ℕ) (x : Values) → IsShaped d → lies_in d values.absent ≡ true → AreCodes x k (option_code d.set values.absent) → IsCoded true d values.absent k x
unfolding lies_in
absent_coded d k x shaped lies codes =
    let both = and_parts d.opt (not (is_empty_set d.set)) lies in
    let least = least_there d.set shaped.part.canonical both.1 in
    let zero' : is_one (x.number k) ≡ false = ap is_one codes.0 in
    record {
      fits = (subst (Has truths) (sym codes.0) zero_has, (has_fits d.base d.set (x.number (suc k)) (x.set (suc k)) (shaped.allowed both.0) (subst (Has d.set) (sym codes.2.0) least.1), tt));
      is = ap (λ b. if b then content_by d.base (x.number (suc k)) (x.set (suc k)) else values.absent) zero';
      default = λ other. least.0 ∙ ap (λ n. Some n) (sym codes.2.0);
    }

option_coded : (d : Domain) (c : Content) (k : ℕ) (x : Values) → IsShaped d → lies_in d c ≡ true → AreCodes x k (option_code d.set c) → IsCoded true d c k x
option_coded d values.absent k x shaped lies codes = absent_coded d k x shaped lies codes
option_coded d (values.bool b) k x shaped lies codes = there_coded d (values.bool b) k x shaped (λ e. cc) lies codes
option_coded d (values.int n) k x shaped lies codes = there_coded d (values.int n) k x shaped (λ e. cc) lies codes
option_coded d (values.case e n) k x shaped lies codes = there_coded d (values.case e n) k x shaped (λ e. cc) lies codes
option_coded d (values.set e s) k x shaped lies codes = there_coded d (values.set e s) k x shaped (λ e. cc) lies codes
option_coded d (values.text t) k x shaped lies codes = there_coded d (values.text t) k x shaped (λ e. cc) lies codes
option_coded d (values.array ix xs) k x shaped lies codes = there_coded d (values.array ix xs) k x shaped (λ e. cc) lies codes

not_absent : (d : Domain) (c : Content) → d.opt ≡ false → lies_in d c ≡ true → c ≡ values.absent → ⊥
unfolding lies_in
not_absent d c plain lies e =
    let there : d.opt && not (is_empty_set d.set) ≡ true = ap (lies_in d) (sym e) ∙ lies in
    let both = and_parts d.opt (not (is_empty_set d.set)) there in
    let opt = both.0 in
    cc

pub cell_coded : (d : Domain) (c : Content) (k : ℕ) (x : Values) → IsShaped d → lies_in d c ≡ true → AreCodes x k (code d.opt d.set c) → IsCoded d.opt d c k x
cell_coded d c k x shaped lies codes = by d.opt refl codes
  where
    by : (o : Bool) → d.opt ≡ o → AreCodes x k (code o d.set c) → IsCoded o d c k x
    by true e codes = option_coded d c k x shaped lies codes
    by false e codes = value_coded d c k x shaped (not_absent d c e lies) lies codes

-- ---- the values of parts, as a program's variables have them

abbrev pub coded : List Part → ℕ → Values → List Value
coded [] k x = []
coded (p ∷ ps) k x = value_by p.sort (x.number k) (x.set k) ∷ coded ps (suc k) x

-- what they stand for is told by them
same_content : (b : Base) (n m : ℤ) (s t : List Range) → value_by (sort_of b) n s ≡ value_by (sort_of b) m t → content_by b n s ≡ content_by b m t
same_content base.Bool n m s t e = let o : n ≡ m = cc in ap (λ n. values.bool (is_one n)) o
same_content base.Int n m s t e = let o : n ≡ m = cc in ap (λ n. values.int n) o
same_content (base.Enum k) n m s t e = let o : n ≡ m = cc in ap (values.case k) o
same_content base.SetInt n m s t e = let o : s ≡ t = cc in ap (values.set None) o
same_content (base.SetEnum k) n m s t e = let o : s ≡ t = cc in ap (values.set (Some k)) o
same_content b n m s t e = let o : n ≡ m = cc in ap (λ n. values.int n) o

pub cell_content_same : (o : Bool) (b : Base) (u : List Range) (k j : ℕ) (x y : Values) → coded (parts_of o (record { sort = sort_of b; set = u })) k x ≡ coded (parts_of o (record { sort = sort_of b; set = u })) j y → content_at o b k x ≡ content_at o b j y
cell_content_same false b u k j x y e =
    let first : value_by (sort_of b) (x.number k) (x.set k) ≡ value_by (sort_of b) (y.number j) (y.set j) = cc in
    same_content b (x.number k) (y.number j) (x.set k) (y.set j) first
cell_content_same true b u k j x y e =
    let first : number (x.number k) ≡ number (y.number j) = cc in
    let there : x.number k ≡ y.number j = cc in
    let second : value_by (sort_of b) (x.number (suc k)) (x.set (suc k)) ≡ value_by (sort_of b) (y.number (suc j)) (y.set (suc j)) = cc in
    ap (λ o. option_by b o (x.number (suc k)) (x.set (suc k))) there
    ∙ ap (λ c. if is_one (y.number j) then c else values.absent) (same_content b (x.number (suc k)) (y.number (suc j)) (x.set (suc k)) (y.set (suc j)) second)

-- ---- and where they fit and have defaults, they are told by what they stand for

truths_same : (n m : ℤ) → Has truths n → Has truths m → is_one n ≡ is_one m → n ≡ m
truths_same n m h k e = elim (two n h) [
  | inl a ↦ elim (two m k) [ inl b ↦ a ∙ sym b | inr b ↦ let p = ap is_one a in let q = ap is_one b in absurd (cc) ]
  | inr a ↦ elim (two m k) [ inl b ↦ let p = ap is_one a in let q = ap is_one b in absurd (cc) | inr b ↦ a ∙ sym b ]
]
  where
    two : (n : ℤ) → Has truths n → (n ≡ pos 0) ⊎ (n ≡ pos 1)
    two (pos zero) h = inl refl
    two (pos (suc zero)) h = inr refl
    two (pos (suc (suc n))) (inl h) = absurd (omega (arith, ints))
    two (pos (suc (suc n))) (inr h) = absurd h
    two n (inl h) = absurd (omega (arith, ints))
    two n (inr h) = absurd h

value_same : (d : Domain) (b : Base) (n m : ℤ) (s t : List Range) → d.base ≡ b → IsShaped d → FitsSort (sort_of b) d.set n s → FitsSort (sort_of b) d.set m t → content_by b n s ≡ content_by b m t → value_by (sort_of b) n s ≡ value_by (sort_of b) m t
value_same d base.Bool n m s t e shaped h k same =
    let over : d.set ≡ truths = subst (λ b. IsTruthOver (sort_of b) d.set) e shaped.part.truth in
    ap (λ n. number n) (truths_same n m (subst (λ u. Has u n) over h) (subst (λ u. Has u m) over k) (cc))
value_same d base.Int n m s t e shaped h k same = let o : n ≡ m = cc in ap (λ n. number n) o
value_same d (base.Enum f) n m s t e shaped h k same = let o : n ≡ m = cc in ap (λ n. number n) o
value_same d base.SetInt n m s t e shaped h k same = let o : s ≡ t = cc in ap (λ s. set s) o
value_same d (base.SetEnum f) n m s t e shaped h k same = let o : s ≡ t = cc in ap (λ s. set s) o
value_same d b n m s t e shaped h k same = absurd (let shape = shaped.base in cc)

never_absent : (b : Base) (n : ℤ) (s : List Range) → content_by b n s ≡ values.absent → ⊥
never_absent base.Bool n s e = cc
never_absent base.Int n s e = cc
never_absent (base.Enum k) n s e = cc
never_absent base.SetInt n s e = cc
never_absent (base.SetEnum k) n s e = cc
never_absent b n s e = cc

number_same : (b : Base) (n m : ℤ) (s t : List Range) → is_subset_sort (sort_of b) ≡ false → n ≡ m → value_by (sort_of b) n s ≡ value_by (sort_of b) m t
number_same base.Bool n m s t e same = ap (λ n. number n) same
number_same base.SetInt n m s t e same = absurd (cc)
number_same (base.SetEnum k) n m s t e same = absurd (cc)
number_same b n m s t e same = ap (λ n. number n) same

abbrev Given : Bool → Domain → ℕ → Values → Type 0
Given o d k x = AllFit (parts_of o (part_of d)) k x × HasDefault o d.set k x

-- where both are there, or both aren't
option_same : (d : Domain) (k : ℕ) (x y : Values) (p q : Bool) → d.opt ≡ true → is_one (x.number k) ≡ p → is_one (y.number k) ≡ q → IsShaped d → Given true d k x → Given true d k y → (if p then content_by d.base (x.number (suc k)) (x.set (suc k)) else values.absent) ≡ (if q then content_by d.base (y.number (suc k)) (y.set (suc k)) else values.absent) → coded (parts_of true (part_of d)) k x ≡ coded (parts_of true (part_of d)) k y
option_same d k x y true true opt e f shaped h i same =
    let first = ap (λ n. number n) (truths_same (x.number k) (y.number k) h.0.0 i.0.0 (e ∙ sym f)) in
    let second = value_same d d.base (x.number (suc k)) (y.number (suc k)) (x.set (suc k)) (y.set (suc k)) refl shaped h.0.1.0 i.0.1.0 same in
    cc
option_same d k x y true false opt e f shaped h i same = absurd (never_absent d.base (x.number (suc k)) (x.set (suc k)) same)
option_same d k x y false true opt e f shaped h i same = absurd (never_absent d.base (y.number (suc k)) (y.set (suc k)) (sym same))
option_same d k x y false false opt e f shaped h i same =
    let first = ap (λ n. number n) (truths_same (x.number k) (y.number k) h.0.0 i.0.0 (e ∙ sym f)) in
    let both = sym (h.1 e) ∙ i.1 f in
    let least : x.number (suc k) ≡ y.number (suc k) = cc in
    let second = number_same d.base (x.number (suc k)) (y.number (suc k)) (x.set (suc k)) (y.set (suc k)) (shaped.allowed opt) least in
    cc

pub cell_same : (d : Domain) (k : ℕ) (x y : Values) → IsShaped d → AllFit (domain_parts d) k x → AllFit (domain_parts d) k y → HasDefault d.opt d.set k x → HasDefault d.opt d.set k y → cell_content d k x ≡ cell_content d k y → coded (domain_parts d) k x ≡ coded (domain_parts d) k y
cell_same d k x y shaped h i a b same = by d.opt refl h i a b same
  where
    by : (o : Bool) → d.opt ≡ o → AllFit (parts_of o (part_of d)) k x → AllFit (parts_of o (part_of d)) k y → HasDefault o d.set k x → HasDefault o d.set k y → content_at o d.base k x ≡ content_at o d.base k y → coded (parts_of o (part_of d)) k x ≡ coded (parts_of o (part_of d)) k y
    by false e h i a b same = ap (λ v. v ∷ []) (value_same d d.base (x.number k) (y.number k) (x.set k) (y.set k) refl shaped h.0 i.0 same)
    by true e h i a b same = option_same d k x y (is_one (x.number k)) (is_one (y.number k)) e refl refl shaped (h, a) (i, b) same
