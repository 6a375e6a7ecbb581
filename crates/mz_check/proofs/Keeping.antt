-- One more item is typed or refused.
use Rattle.std.proofs.Common.{◌≡◌, ◌∙◌, ℕ, ◌+◌, ◌<◌, ◌≤◌, List, [], ◌∷◌, ◌++◌, Option, Some, None, Result, Ok, Err, map, drop, length, get_or, refl, ap, sym, subst}
use Rattle.std.specs.List.{flat_map, enumerate_from}
use Rattle.std.proofs.lemmas.List.{map-append, drop_more}
use Rattle.std.proofs.Math.ListN.{drop_of_length-le}
use Rattle.mz_base.specs.declared.fault.Span.{Span}
use Rattle.mz_base.specs.declared.fault.Fault.{Fault}
use Rattle.mz_base.specs.declared.stop.Stop.{Stop}
use Rattle.mz_base.specs.declared.stop.Stop.TheVariants.{Refused, Memory}
use Rattle.mz_core.specs.declared.program.CoreGoal.{CoreGoal}
use Rattle.mz_core.specs.Program.{Goal, satisfy, goal as typed_goal}
use Rattle.mz_tree.specs.Items as item
use Rattle.mz_tree.specs.Items.{GoalTree}
use Rattle.mz_check_meaning.specs.Tests.{Test, ◌>>=◌, loop, one_more, each}
use Rattle.mz_check_meaning.specs.Models.{Model}
use Rattle.mz_check_meaning.specs.Items.{goal}
use Rattle.mz_check_meaning.specs.Passes.{Passes}
use Rattle.mz_check_meaning.specs.Checks.{Met, met, goal_place}
use Rattle.mz_check.specs.StepsMeeting.{sooner, after, IsKept, met_by, AreTested, IsGoalKept, IsGoalTested}

-- all of `xs` but `rest` are tested
pub record AreTestedBut {X B : Type 0} (place : X → Span) (go : X → Test B) (xs rest : List X) (first next : Option Met) (done : List B) : Type 0 where
  pub met : after first (flat_map (met_by place go) xs) ≡ after next (flat_map (met_by place go) rest)
  pub typed : next ≡ None → each go xs ≡ loop (one_more go) done rest

some_is_none : {A : Type 0} {P : Type 0} (x : A) → Some x ≡ None → P
some_is_none x e = absurd (cc)

module _ {X B : Type 0} (place : X → Span) (go : X → Test B) (xs : List X) (first next : Option Met) (done : List B) (x : X) (rest : List X) where
  passed_one : (y : B) → AreTestedBut place go xs (x ∷ rest) first next done → go x ≡ Ok y → AreTestedBut place go xs rest first next (done ++ y ∷ [])
  unfolding after
  passed_one y t e = record {
    met = t.met ∙ ap (λ (r : Test B). after next (met (place x) r ++ flat_map (met_by place go) rest)) e;
    typed = λ n. t.typed n ∙ ap (λ (r : Test B). (r >>= λ z. Ok (done ++ z ∷ [])) >>= λ more. loop (one_more go) more rest) e;
  }

  refused_one : (more : List B) (f : Fault) → AreTestedBut place go xs (x ∷ rest) first next done → go x ≡ Err f → AreTestedBut place go xs rest first (Some (sooner next (place x, f))) more
  unfolding after
  refused_one more f t e = record {
    met = t.met ∙ ap (λ (r : Test B). after next (met (place x) r ++ flat_map (met_by place go) rest)) e;
    typed = λ n. some_is_none (sooner next (place x, f)) n;
  }

-- what is kept of one is tested
pub one_tested : {A X B : Type 0} (see : A → B) (place : X → Span) (go : X → Test B) (xs : List X) (first next more : Option Met) (x : X) (rest : List X) (r : Result A Stop) (at : Span) (old new : List A)
    → AreTestedBut place go xs (x ∷ rest) first next (map see old) → Passes see r (go x) → at ≡ place x → IsKept r at old new next more → AreTestedBut place go xs rest first more (map see new)
one_tested see place go xs first next more x rest (Ok y) at old new t p is k =
    subst (λ o. AreTestedBut place go xs rest first o (map see new)) (sym k.1)
    (subst (λ ys. AreTestedBut place go xs rest first next ys) (sym (ap (map see) k.0 ∙ map-append see old (y ∷ [])))
    (passed_one place go xs first next (map see old) x rest (see y) t p))
one_tested see place go xs first next more x rest (Err (Refused f)) at old new t p is k =
    subst (λ o. AreTestedBut place go xs rest first o (map see new)) (sym (k ∙ ap (λ (s : Span). Some (sooner next (s, f))) is))
    (refused_one place go xs first next (map see old) x rest (map see new) f t p)
one_tested see place go xs first next more x rest (Err Memory) at old new t p is k = absurd k

pub all_tested : {X B : Type 0} (place : X → Span) (go : X → Test B) (xs : List X) (first next : Option Met) (done : List B) → AreTestedBut place go xs [] first next done → AreTested place go xs first next done
unfolding after
all_tested place go xs first next done t = record { met = sym t.met; typed = t.typed }

-- ---- by the numbers of a list of the code

pub split : {A : Type 0} (xs : List A) (i : ℕ) (x : A) → i < length xs → x ≡ get_or xs i x → drop i xs ≡ x ∷ drop (i + 1) xs
split xs i x low is = drop_more xs i x low ∙ ap (λ y. y ∷ drop (i + 1) xs) (sym is)

pub next_tested : {A S X B : Type 0} (see : A → B) (place : X → Span) (go : X → Test B) (view : S → X) (xs : List S) (i : ℕ) (x : S) (first next more : Option Met) (r : Result A Stop) (at : Span) (old new : List A)
    → AreTestedBut place go (map view xs) (map view (drop i xs)) first next (map see old) → i < length xs → x ≡ get_or xs i x → Passes see r (go (view x)) → at ≡ place (view x) → IsKept r at old new next more
    → AreTestedBut place go (map view xs) (map view (drop (i + 1) xs)) first more (map see new)
next_tested see place go view xs i x first next more r at old new t low is p q k =
    one_tested see place go (map view xs) first next more (view x) (map view (drop (i + 1) xs)) r at old new
    (subst (λ ys. AreTestedBut place go (map view xs) (map view ys) first next (map see old)) (split xs i x low is) t) p q k

pub end_tested : {S X B : Type 0} (place : X → Span) (go : X → Test B) (view : S → X) (xs : List S) (i : ℕ) (first next : Option Met) (done : List B) → AreTestedBut place go (map view xs) (map view (drop i xs)) first next done → length xs ≤ i → AreTested place go (map view xs) first next done
end_tested place go view xs i first next done t past = all_tested place go (map view xs) first next done (subst (λ ys. AreTestedBut place go (map view xs) (map view ys) first next done) (drop_of_length-le xs past) t)

pub next_numbered : {A S X B : Type 0} (see : A → B) (place : ℕ × X → Span) (go : ℕ × X → Test B) (view : S → X) (xs : List S) (i : ℕ) (x : S) (first next more : Option Met) (r : Result A Stop) (at : Span) (old new : List A)
    → AreTestedBut place go (enumerate_from 0 (map view xs)) (enumerate_from i (map view (drop i xs))) first next (map see old) → i < length xs → x ≡ get_or xs i x → Passes see r (go (i, view x)) → at ≡ place (i, view x) → IsKept r at old new next more
    → AreTestedBut place go (enumerate_from 0 (map view xs)) (enumerate_from (i + 1) (map view (drop (i + 1) xs))) first more (map see new)
next_numbered see place go view xs i x first next more r at old new t low is p q k =
    one_tested see place go (enumerate_from 0 (map view xs)) first next more (i, view x) (enumerate_from (i + 1) (map view (drop (i + 1) xs))) r at old new
    (subst (λ ys. AreTestedBut place go (enumerate_from 0 (map view xs)) (enumerate_from i (map view ys)) first next (map see old)) (split xs i x low is) t) p q k

pub end_numbered : {S X B : Type 0} (place : ℕ × X → Span) (go : ℕ × X → Test B) (view : S → X) (xs : List S) (i : ℕ) (first next : Option Met) (done : List B) → AreTestedBut place go (enumerate_from 0 (map view xs)) (enumerate_from i (map view (drop i xs))) first next done → length xs ≤ i → AreTested place go (enumerate_from 0 (map view xs)) first next done
end_numbered place go view xs i first next done t past = all_tested place go (enumerate_from 0 (map view xs)) first next done (subst (λ ys. AreTestedBut place go (enumerate_from 0 (map view xs)) (enumerate_from i (map view ys)) first next done) (drop_of_length-le xs past) t)

-- ---- the objective

none_asked_case : (m : Model) (g : GoalTree) (first : Option Met) → [] ≡ goal_place g → IsGoalTested m g first first satisfy
unfolding after goal
none_asked_case m item.satisfy first none = record { met = refl; is = λ e. refl }
none_asked_case m (item.minimize e) first none = absurd (cc)
none_asked_case m (item.maximize e) first none = absurd (cc)

pub none_asked : (m : Model) (g : GoalTree) (first next : Option Met) → [] ≡ goal_place g → next ≡ first → IsGoalTested m g first next satisfy
none_asked m g first next none same = subst (λ (o : Option Met). IsGoalTested m g first o satisfy) (sym same) (none_asked_case m g first none)

asked_met : (m : Model) (g : GoalTree) (first : Option Met) (at : Span) (t : Test Goal) → at ∷ [] ≡ goal_place g → goal m g ≡ t → after first (flat_map (λ a. met a (goal m g)) (goal_place g)) ≡ after first (met at t ++ [])
asked_met m g first at t there e =
    ap (λ (ps : List Span). after first (flat_map (λ a. met a (goal m g)) ps)) (sym there)
    ∙ ap (λ (r : Test Goal). after first (met at r ++ [])) e

pub one_asked : (m : Model) (g : GoalTree) (first next : Option Met) (at : Span) (r : Result CoreGoal Stop) (typed : CoreGoal) → at ∷ [] ≡ goal_place g → Passes typed_goal r (goal m g) → IsGoalKept r at typed first next → IsGoalTested m g first next (typed_goal typed)
unfolding after
one_asked m g first next at (Ok x) typed there p k = record {
  met = k.1 ∙ sym (asked_met m g first at (Ok (typed_goal x)) there p);
  is = λ e. p ∙ ap (λ (y : CoreGoal). Ok (typed_goal y)) (sym k.0);
}
one_asked m g first next at (Err (Refused f)) typed there p k = record {
  met = k ∙ sym (asked_met m g first at (Err f) there p);
  is = λ e. some_is_none (sooner first (at, f)) (sym k ∙ e);
}
one_asked m g first next at (Err Memory) typed there p k = absurd k
