-- Enums, data and goals, gathered in the order of the text.
use Rattle.std.proofs.Common.{◌≡◌, ℕ, Bool, true, false, List, [], ◌∷◌, ◌++◌, Option, Some, None, cond, refl, sym, ap, ◌∙◌, map}
use Rattle.std.specs.Prelude.{nat_eq}
use Rattle.std.specs.List.{flat_map}
use Rattle.mz_base.specs.declared.fault.Span.{Span}
use Rattle.mz_tree.specs.declared.data.DataItem.{DataItem}
use Rattle.mz_tree.specs.Tree.{Name}
use Rattle.mz_tree.specs.Items.{GoalTree, ItemTree, include, declare, assign, constraint, solve, output, function, enum, annotation}
use Rattle.mz_tree.specs.Data.{Given, given}
use Rattle.mz_scope_names.specs.Given.{cases_in, enum_of}
use Rattle.mz_scope_names.specs.Sets.{holds}
use Rattle.mz_scope_names.proofs.Lists.{flat_mapped}
use Rattle.mz_scope_order.specs.declared.scoped.ScopedEnum.{ScopedEnum}
use Rattle.mz_scope_order.specs.StepsTables.{first_given}
use Rattle.mz_scope_order.specs.Scoped.{enum_tree}
use Rattle.mz_scope_order.specs.Parts.{EnumTree, goal_of, cases_at, given_cases, all_cases, enums_of, unless, given_of}
use Rattle.mz_scope_order.specs.StepsParts.{cases_of_given, own_cases, enum_by, first_goal}

given_is : (n : Name) (ds : List Given) → cases_of_given (first_given n ds) ≡ given_cases n ds
unfolding first_given given_cases
given_is n [] = refl
given_is n (d ∷ ds) = one (nat_eq n d.name) d (first_given n ds) (given_cases n ds) (given_is n ds)
  where
    one : (b : Bool) (d : Given) (o : Option Given) (cs : List (Name × Span)) → cases_of_given o ≡ cs → cases_of_given (cond b (Some d) o) ≡ cond b (cases_at d.at (cases_in d.value)) cs
    one true d o cs e = refl
    one false d o cs e = e

cases_are : (f : Name → Option Given) (ds : List Given) → ((n : Name) → f n ≡ first_given n ds) → (n : Name) (cs : Option (List (Name × Span))) → own_cases cs (cases_of_given (f n)) ≡ all_cases n ds cs
cases_are f ds e n None = ap cases_of_given (e n) ∙ given_is n ds
cases_are f ds e n (Some cs) = refl

pub enums_are : (f : Name → Option Given) (ds : List Given) → ((n : Name) → f n ≡ first_given n ds) → (is : List ItemTree) → flat_map (enum_by f) is ≡ enums_of is ds
enums_are f ds e [] = refl
enums_are f ds e (enum n s cs ∷ is) = ap (λ z. record { name = n; span = s; cases = z } ∷ flat_map (enum_by f) is) (cases_are f ds e n cs) ∙ ap (λ z. record { name = n; span = s; cases = all_cases n ds cs } ∷ z) (enums_are f ds e is)
enums_are f ds e (declare d ∷ is) = enums_are f ds e is
enums_are f ds e (assign m s x ∷ is) = enums_are f ds e is
enums_are f ds e (include m s ∷ is) = enums_are f ds e is
enums_are f ds e (constraint x ∷ is) = enums_are f ds e is
enums_are f ds e (solve s g ∷ is) = enums_are f ds e is
enums_are f ds e (output x ∷ is) = enums_are f ds e is
enums_are f ds e (function h ∷ is) = enums_are f ds e is
enums_are f ds e (annotation m ∷ is) = enums_are f ds e is

names_are : (ds : List Given) (is : List ItemTree) → map (λ (e : EnumTree). e.name) (enums_of is ds) ≡ flat_map enum_of is
names_are ds [] = refl
names_are ds (enum n s cs ∷ is) = ap (λ z. n ∷ z) (names_are ds is)
names_are ds (declare d ∷ is) = names_are ds is
names_are ds (assign m s x ∷ is) = names_are ds is
names_are ds (include m s ∷ is) = names_are ds is
names_are ds (constraint x ∷ is) = names_are ds is
names_are ds (solve s g ∷ is) = names_are ds is
names_are ds (output x ∷ is) = names_are ds is
names_are ds (function h ∷ is) = names_are ds is
names_are ds (annotation m ∷ is) = names_are ds is

enum_names_seen : (es : List ScopedEnum) → map (λ (e : ScopedEnum). e.name) es ≡ map (λ (e : EnumTree). e.name) (map enum_tree es)
enum_names_seen [] = refl
enum_names_seen (e ∷ es) = ap (λ z. e.name ∷ z) (enum_names_seen es)

pub given_are : (es : List ScopedEnum) (ds : List DataItem) (is : List ItemTree) (all : List Given) → map enum_tree es ≡ enums_of is all → flat_map (λ d. unless (holds d.name (map (λ (e : ScopedEnum). e.name) es)) (given d)) ds ≡ given_of is (map given ds)
given_are es ds is all h =
    ap (λ (ns : List Name). flat_map (λ d. unless (holds d.name ns) (given d)) ds) (enum_names_seen es ∙ ap (λ z. map (λ (e : EnumTree). e.name) z) h ∙ names_are all is)
    ∙ sym (flat_mapped (λ d. unless (holds d.name (flat_map enum_of is)) d) given ds)

-- a set that has the same names as a list
pub same_unless : (a b : List ℕ) → ((n : ℕ) → holds n a ≡ holds n b) → (ds : List DataItem) → flat_map (λ d. unless (holds d.name a) (given d)) ds ≡ flat_map (λ d. unless (holds d.name b) (given d)) ds
same_unless a b e [] = refl
same_unless a b e (d ∷ ds) =
    ap (λ z. unless z (given d) ++ flat_map (λ x. unless (holds x.name a) (given x)) ds) (e d.name)
    ∙ ap (λ z. unless (holds d.name b) (given d) ++ z) (same_unless a b e ds)

abbrev pub goal_from : Option GoalTree → GoalTree → GoalTree
goal_from (Some g) later = g
goal_from None later = later

pub goal_both : (xs ys : List ItemTree) → goal_of (xs ++ ys) ≡ goal_from (first_goal xs) (goal_of ys)
unfolding goal_of first_goal
goal_both [] ys = refl
goal_both (solve s g ∷ xs) ys = refl
goal_both (declare d ∷ xs) ys = goal_both xs ys
goal_both (assign m s x ∷ xs) ys = goal_both xs ys
goal_both (include m s ∷ xs) ys = goal_both xs ys
goal_both (constraint x ∷ xs) ys = goal_both xs ys
goal_both (output x ∷ xs) ys = goal_both xs ys
goal_both (function h ∷ xs) ys = goal_both xs ys
goal_both (enum m s cs ∷ xs) ys = goal_both xs ys
goal_both (annotation m ∷ xs) ys = goal_both xs ys
