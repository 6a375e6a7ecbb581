-- The rows that test two values tell whether they are one.
use Rattle.std.proofs.Common.{◌≡◌, ◌≢◌, ◌∙◌, ℕ, ℤ, pos, nat_eq, Bool, true, false, List, [], ◌∷◌, Option, Some, None, IsSome, refl, sym, ap, subst, if◌then◌else◌}
use Rattle.std.proofs.lemmas.Bool.{eqb-true, eq-eqb}
use Rattle.std.proofs.lemmas.Bool.Decides.{Decides-int_eq}
use Rattle.std.specs.Option.{option_map, option_and_then}
use Rattle.std.specs.Ordering.{int_eq}
use Rattle.mz_value.specs.Ranges.{Range}
use Rattle.mz_value.specs.Contents.{Content}
use Rattle.mz_value.specs.Contents as values
use Rattle.mz_core.specs.declared.types.Base.{Base}
use Rattle.mz_core.specs.declared.types.Base.TheVariants as base
use Rattle.mz_operations.specs.declared.row.ScalarRow.TheVariants as row
use Rattle.mz_operations.specs.Views.{◌>>=◌, as_pair, as_option, as_set, is_single, number_of_bool}
use Rattle.mz_operations.specs.Arguments.{at, option_at, set_at}
use Rattle.mz_operations.specs.Sets.{same_set}
use Rattle.mz_operations.specs.Values.{scalar_value, equality}
use Rattle.mz_arena.specs.Values.{Term, set_comparison_term}
use Rattle.mz_arena.specs.Values as terms
use Rattle.mz_meaning.specs.Cells.{is_true}
use Rattle.mz_model_state.specs.Hands.{AreOne, Iff}
use Rattle.mz_model_state.proofs.Tests.{bit_true, sets_tested}

abbrev pub equal_by : Option Content → Option Content → Bool
equal_by v w = is_true (scalar_value row.Equal (v ∷ w ∷ []))

abbrev pub sets_equal_by : Option Content → Option Content → Bool
sets_equal_by v w = is_true (scalar_value row.SetEqual (v ∷ w ∷ []))

-- ---- single values, and an option's absent one

bits : (a b : Bool) → int_eq (number_of_bool a) (number_of_bool b) ≡ true → a ≡ b
bits true true h = refl
bits true false h = absurd (cc)
bits false true h = absurd (cc)
bits false false h = refl

case_by : (d e : ℕ) (j k : ℤ) (q : Bool) → (q ≡ true → d ≡ e) → is_true (option_map (λ (p : ℤ × ℤ). int_eq p.0 p.1) (if q then Some (j, k) else None) >>= λ b. Some (values.bool b)) ≡ true → values.case d j ≡ values.case e k
case_by d e j k true same h = ap (λ d. values.case d j) (same refl) ∙ ap (values.case e) ((Decides-int_eq j k).0 h)
case_by d e j k false same h = absurd (cc)

from_bool : (a : Bool) (d : Content) → equal_by (Some (values.bool a)) (Some d) ≡ true → values.bool a ≡ d
unfolding scalar_value equality as_pair option_at at as_option is_single
from_bool a (values.bool b) h = ap values.bool (bits a b h)
from_bool a d h = absurd (cc)

from_int : (m : ℤ) (d : Content) → equal_by (Some (values.int m)) (Some d) ≡ true → values.int m ≡ d
unfolding scalar_value equality as_pair option_at at as_option is_single
from_int m (values.int n) h = ap values.int ((Decides-int_eq m n).0 h)
from_int m d h = absurd (cc)

from_case : (e : ℕ) (k : ℤ) (d : Content) → equal_by (Some (values.case e k)) (Some d) ≡ true → values.case e k ≡ d
unfolding scalar_value equality as_pair option_at at as_option is_single
from_case e k (values.case f j) h = case_by e f k j (nat_eq e f) (eqb-true e f) h
from_case e k d h = absurd (cc)

from_absent : (d : Content) → equal_by (Some values.absent) (Some d) ≡ true → values.absent ≡ d
unfolding scalar_value equality as_pair option_at at as_option is_single
from_absent values.absent h = refl
from_absent d h = absurd (cc)

same_by : (c d : Content) → equal_by (Some c) (Some d) ≡ true → c ≡ d
unfolding scalar_value equality as_pair option_at at as_option is_single
same_by (values.bool a) d h = from_bool a d h
same_by (values.int m) d h = from_int m d h
same_by (values.case e k) d h = from_case e k d h
same_by values.absent d h = from_absent d h
same_by c d h = absurd (cc)

int_itself : (n : ℤ) → int_eq n n ≡ true
int_itself n = (Decides-int_eq n n).1 refl

-- a value that an option may have
abbrev pub IsOptional : Content → Type 0
IsOptional c = as_option c ≡ Some c

itself_by : (c : Content) → IsOptional c → equal_by (Some c) (Some c) ≡ true
unfolding scalar_value equality as_pair option_at at as_option is_single
itself_by (values.bool a) is = int_itself (number_of_bool a)
itself_by (values.int m) is = int_itself m
itself_by (values.case e k) is = ap (λ q. is_true (option_map (λ (p : ℤ × ℤ). int_eq p.0 p.1) (if q then Some (k, k) else None) >>= λ b. Some (values.bool b))) (eq-eqb e e refl) ∙ int_itself k
itself_by values.absent is = refl
itself_by c is = absurd (cc)

no_second : (c : Content) → equal_by (Some c) None ≡ false
unfolding scalar_value option_at at as_option is_single
no_second (values.bool a) = refl
no_second (values.int m) = refl
no_second (values.case e k) = refl
no_second values.absent = refl
no_second c = refl

some_one : (c d : Content) → Some c ≡ Some d → c ≡ d
some_one c d e = cc

pub singles_tested : (c : Content) (w : Option Content) → IsOptional c → Iff (equal_by (Some c) w ≡ true) (AreOne (Some c) w)
singles_tested c None is = record { to = λ h. absurd (let e = no_second c in cc); from = λ h. absurd (let e = h.second in cc) }
singles_tested c (Some d) is = record {
  to = λ h. record { content = d; first = ap (λ (x : Content). Some x) (same_by c d h); second = refl };
  from = λ h. subst (λ (x : Content). equal_by (Some c) (Some x) ≡ true) (some_one c d (h.first ∙ sym h.second)) (itself_by c is);
}

-- ---- sets

sets_same : (k : Option ℕ) (s t : List Range) → Iff (same_set s t ≡ true) (AreOne (Some (values.set k s)) (Some (values.set k t)))
unfolding set_comparison_term
sets_same None s t =
    let tests = sets_tested base.SetInt (Some (terms.set s)) (Some (terms.set t)) refl in
    record { to = λ h. tests.to (bit_true (same_set s t) ∙ h); from = λ h. sym (bit_true (same_set s t)) ∙ tests.from h }
sets_same (Some e) s t =
    let tests = sets_tested (base.SetEnum e) (Some (terms.set s)) (Some (terms.set t)) refl in
    record { to = λ h. tests.to (bit_true (same_set s t) ∙ h); from = λ h. sym (bit_true (same_set s t)) ∙ tests.from h }

-- a set beside one that may be undefined, and beside an option of one
pub sets_tested_by : (k : Option ℕ) (s : List Range) (o : Option (List Range)) → Iff (sets_equal_by (Some (values.set k s)) (option_map (values.set k) o) ≡ true) (AreOne (Some (values.set k s)) (option_map (values.set k) o))
unfolding scalar_value set_at at as_set
sets_tested_by k s None = record { to = λ h. absurd (cc); from = λ h. absurd (let e = h.second in cc) }
sets_tested_by k s (Some t) = sets_same k s t

pub options_of_sets : (k : Option ℕ) (s : List Range) (q : Bool) (o : Option (List Range)) → Iff (sets_equal_by (Some (values.set k s)) (if q then option_map (values.set k) o else Some values.absent) ≡ true) (AreOne (Some (values.set k s)) (if q then option_map (values.set k) o else Some values.absent))
unfolding scalar_value set_at at as_set
options_of_sets k s true o = sets_tested_by k s o
options_of_sets k s false o = record { to = λ h. absurd (cc); from = λ h. absurd (let e = h.first ∙ sym h.second in cc) }
