-- What may be shown, and the rows of `show`.
use Rattle.std.proofs.lemmas.Bool.{and_parts}
use Rattle.std.proofs.Common.{◌≡◌, ℕ, List, [], ◌∷◌, length, map, refl, arith}
use Rattle.std.proofs.lemmas.List.{length-map}
use Rattle.std.proofs.lemmas.Int.{ints}
use Rattle.std.proofs.lemmas.Bool.Decides.{nat_tests}
use Rattle.std.specs.Prelude.{ℤ, pos, int_le, Bool, true, false, ◌&&◌, nat_lt, Option, Some, None}
use Rattle.std.specs.List.{list_all}
use Rattle.std.specs.Option.{option_map}
use Rattle.mz_base.specs.declared.fault.Span.{Span}
use Rattle.mz_value.specs.Ranges.{Range}
use Rattle.mz_value.specs.Contents.{Content, Contents, bool, int, case, set, absent, text, array, none, more}
use Rattle.mz_value.specs.Shown.{Names, names_of, IsCase, AreCases, IsShowable, AreShowable, IsShowableSet}
use Rattle.mz_core.specs.declared.types.Base.{Base}
use Rattle.mz_operations.specs.declared.row.Row.TheVariants.{Show, ShowArray}
use Rattle.mz_operations.specs.Arguments.{Arguments}
use Rattle.mz_operations.specs.Arguments as arguments
use Rattle.mz_operations.specs.Answers.{is_mismatched, negative, is_failed, limited}
use Rattle.mz_meaning.specs.Runs.{State, Out}
use Rattle.mz_meaning.specs.Cells.{Par}
use Rattle.mz_meaning.specs.Coerced.{recast}
use Rattle.mz_meaning.specs.Operations.{has_case, has_cases, is_showable, are_showable, par_row}
use Rattle.mz_eval_row_cells.specs.Steps.{shown_of}

case_there : (labels : List (List ℕ)) (k : ℤ) → has_case labels k ≡ true → IsCase labels k
case_there labels k h =
    let p = and_parts (int_le (pos 1) k) (int_le k (pos (length labels))) h in
    (omega (arith, ints), omega (arith, ints))

cases_there : (labels : List (List ℕ)) (rs : List Range) → list_all (λ r. has_case labels r.0 && has_case labels r.1) rs ≡ true → AreCases labels rs
cases_there labels [] h = tt
cases_there labels (r ∷ rs) h =
    let p = and_parts (has_case labels r.0 && has_case labels r.1) (list_all (λ q. has_case labels q.0 && has_case labels q.1) rs) h in
    let ends = and_parts (has_case labels r.0) (has_case labels r.1) p.0 in
    ((case_there labels r.0 ends.0, case_there labels r.1 ends.1), cases_there labels rs p.1)

set_there : (names : Names) (of : Option ℕ) (rs : List Range) → has_cases names of rs ≡ true → IsShowableSet names of rs
set_there names None rs h = tt
set_there names (Some e) rs h =
    let p = and_parts (nat_lt e (length names)) (list_all (λ r. has_case (names_of names e) r.0 && has_case (names_of names e) r.1) rs) h in
    (grind (arith, nat_tests), cases_there (names_of names e) rs p.1)

mutual
  unfolding is_showable are_showable

  pub may_show : (names : Names) (x : Content) → is_showable names x ≡ true → IsShowable names x
  may_show names (case e k) h =
      let p = and_parts (nat_lt e (length names)) (has_case (names_of names e) k) h in
      (grind (arith, nat_tests), case_there (names_of names e) k p.1)
  may_show names (set of rs) h = set_there names of rs h
  may_show names (array ix xs) h = all_showable names xs h
  may_show names (bool b) h = tt
  may_show names (int n) h = tt
  may_show names absent h = tt
  may_show names (text t) h = tt

  all_showable : (names : Names) (xs : Contents) → are_showable names xs ≡ true → AreShowable names xs
  all_showable names none h = tt
  all_showable names (more x xs) h =
      let p = and_parts (is_showable names x) (are_showable names xs) h in
      (may_show names x p.0, all_showable names xs p.1)

-- ---- the rows

one_shown : (names : Names) (b : Base) (at : Span) (x : Content) (vs : Arguments) (s : State) (c : Bool) → is_showable names x ≡ c → par_row names Show b at (Some x ∷ vs) s ≡ Out (Par (option_map (recast b) (shown_of names (Some x ∷ vs)))) s
unfolding arguments.at is_mismatched negative is_failed limited
one_shown names b at x vs s true e = rw e refl
one_shown names b at x vs s false e = rw e refl

pub shown_one : (names : Names) (b : Base) (at : Span) (vs : Arguments) (s : State) → par_row names Show b at vs s ≡ Out (Par (option_map (recast b) (shown_of names vs))) s
unfolding arguments.at is_mismatched negative is_failed limited
shown_one names b at [] s = refl
shown_one names b at (None ∷ vs) s = refl
shown_one names b at (Some x ∷ vs) s = one_shown names b at x vs s (is_showable names x) refl

array_shown : (names : Names) (b : Base) (at : Span) (x : Content) (vs : Arguments) (s : State) (c : Bool) → is_showable names x ≡ c → par_row names ShowArray b at (Some x ∷ vs) s ≡ Out (Par (option_map (recast b) (shown_of names (Some x ∷ vs)))) s
unfolding arguments.at is_mismatched negative is_failed limited
array_shown names b at x vs s true e = rw e refl
array_shown names b at x vs s false e = rw e refl

pub shown_array : (names : Names) (b : Base) (at : Span) (vs : Arguments) (s : State) → par_row names ShowArray b at vs s ≡ Out (Par (option_map (recast b) (shown_of names vs))) s
unfolding arguments.at is_mismatched negative is_failed limited
shown_array names b at [] s = refl
shown_array names b at (None ∷ vs) s = refl
shown_array names b at (Some x ∷ vs) s = array_shown names b at x vs s (is_showable names x) refl

pub as_many : {A B : Type 0} (view : A → B) (xs : List A) → length (map view xs) ≡ length xs
as_many view xs = length-map xs view
