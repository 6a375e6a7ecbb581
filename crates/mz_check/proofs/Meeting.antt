-- The fault that is met first among lists of faults.
use Rattle.std.proofs.Common.{◌≡◌, List, [], ◌∷◌, ◌++◌, Option, Some, None, Ok, refl, ap, sym}
use Rattle.mz_check_meaning.specs.Checks.{Met, first_from, none_met}
use Rattle.mz_check.specs.StepsMeeting.{sooner, after, test_of}

pub after_both : (first : Option Met) (xs ys : List Met) → after first (xs ++ ys) ≡ after (after first xs) ys
unfolding after
after_both first [] ys = refl
after_both first (x ∷ xs) ys = after_both (Some (sooner first x)) xs ys

-- a fault that is met stays
met_stays : (x : Met) (xs : List Met) → after (Some x) xs ≡ None → ⊥
unfolding after
met_stays x [] e = absurd (cc)
met_stays x (y ∷ ys) e = met_stays (sooner (Some x) y) ys e

pub none_before : (first : Option Met) (xs : List Met) → after first xs ≡ None → first ≡ None
none_before None xs e = refl
none_before (Some x) xs e = absurd (met_stays x xs e)

first_is : (x : Met) (xs : List Met) → after (Some x) xs ≡ Some (first_from x xs)
unfolding after first_from
first_is x [] = refl
first_is x (y ∷ ys) = first_is (sooner (Some x) y) ys

-- the test of a list of faults is that of the one that is met first
pub none_met_is : (xs : List Met) → none_met xs ≡ test_of (after None xs)
unfolding after
none_met_is [] = refl
none_met_is (x ∷ xs) = ap test_of (sym (first_is x xs))

pub test_passed : (first : Option Met) → test_of first ≡ Ok tt → first ≡ None
test_passed None e = refl
test_passed (Some m) e = absurd (cc)
