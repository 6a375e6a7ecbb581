-- All items of a model are tested: the fault that is met first, or all its typed parts.
use Rattle.std.proofs.Common.{◌≡◌, ◌∙◌, ℕ, List, [], ◌∷◌, ◌++◌, Option, None, Ok, Err, refl, ap, sym}
use Rattle.std.specs.List.{flat_map}
use Rattle.mz_base.specs.declared.fault.Span.{Span}
use Rattle.mz_tree.specs.Tree as source
use Rattle.mz_tree.specs.Tree.{Declaration}
use Rattle.mz_tree.specs.Items.{FunctionTree}
use Rattle.mz_scope_order.specs.Scoped.{ScopedTree}
use Rattle.mz_check_meaning.specs.Tests.{Test, ◌>>=◌}
use Rattle.mz_check_meaning.specs.Models.{Model, outermost, type_of_decl, heading_of}
use Rattle.mz_check_meaning.specs.Coerced.{fitted}
use Rattle.mz_check_meaning.specs.Typing.{check}
use Rattle.mz_check_meaning.specs.Items.{value_of, with_params, decl, function, constraint, goal, output}
use Rattle.mz_check_meaning.specs.Checks.{Met, met, numbered, value_place, tree_place, goal_place, decl_met, function_met, tree_met, none_met, items_met}
use Rattle.mz_check.specs.StepsMeeting.{after, test_of, met_by, AreTested, IsGoalTested}
use Rattle.mz_check.specs.StepsParts.{value_of_each, body_of_each, value_at, body_at, Parts, AreParts, AreAllTested}
use Rattle.mz_check.proofs.Meeting.{after_both, none_before, none_met_is}

-- a declaration is refused where its value is
made_same : {A B : Type 0} (at : Span) (t : Test A) (f : A → B) → met at (t >>= λ x. Ok (f x)) ≡ met at t
made_same at (Ok x) f = refl
made_same at (Err e) f = refl

typed_same : {A B C : Type 0} (at : Span) (u : Test A) (v : A → Test B) (f : A → B → C) → met at (u >>= λ x. v x >>= λ y. Ok (f x y)) ≡ met at (u >>= v)
typed_same at (Ok x) v f = made_same at (v x) (f x)
typed_same at (Err e) v f = refl

decl_same : (m : Model) (d : ℕ × Declaration) → decl_met m d ≡ met_by value_at (value_of_each m) d
unfolding decl
decl_same m (k, source.declaration t n at e) = typed_same (value_place (source.declaration t n at e)) (type_of_decl m at k) (λ u. value_of m u.ty e) (λ u v. record { slot = k; name = n; span = at; ty = u; value = v })

body_same : {A B C D : Type 0} (at : Span) (h : Test A) (e : A → Test B) (b : A → B → Test C) (f : A → C → D) → met at (h >>= λ x. e x >>= λ y. b x y >>= λ z. Ok (f x z)) ≡ met at (h >>= λ x. e x >>= λ y. b x y)
body_same at (Ok x) e b f = typed_same at (e x) (b x) (λ y z. f x z)
body_same at (Err r) e b f = refl

function_same : (m : Model) (f : ℕ × FunctionTree) → function_met m f ≡ met_by body_at (body_of_each m) f
unfolding function
function_same m f = body_same (tree_place f.1.body) (heading_of m f.1.span f.0) (λ h. check m f.1.body (with_params h.params (outermost m))) (λ h e. fitted e h.result.ty) (λ h b. record { name = f.1.name; span = f.1.span; params = h.params; result = h.result; body = b })

flat_same : {X Y : Type 0} (f g : X → List Y) (xs : List X) → ((x : X) → f x ≡ g x) → flat_map f xs ≡ flat_map g xs
flat_same f g [] e = refl
flat_same f g (x ∷ xs) e = ap (λ ys. ys ++ flat_map f xs) (e x) ∙ ap (λ ys. g x ++ ys) (flat_same f g xs e)

-- five lists of faults, one after the other
five_met : (before : Option Met) (a b c d e : List Met) → after before (a ++ (b ++ (c ++ (d ++ e)))) ≡ after (after (after (after (after before a) b) c) d) e
five_met before a b c d e =
    after_both before a (b ++ (c ++ (d ++ e)))
    ∙ after_both (after before a) b (c ++ (d ++ e))
    ∙ after_both (after (after before a) b) c (d ++ e)
    ∙ after_both (after (after (after before a) b) c) d e

module _ (s : ScopedTree) (m : Model) (p : Parts) (before first second third fourth last : Option Met)
    (values : AreTested value_at (value_of_each m) (numbered s.decls) before first p.values)
    (bodies : AreTested body_at (body_of_each m) (numbered s.functions) first second p.bodies)
    (constraints : AreTested tree_place (constraint m) s.constraints second third p.constraints)
    (objective : IsGoalTested m s.goal third fourth p.goal)
    (outputs : AreTested tree_place (output m) s.outputs fourth last p.outputs) where
  all_met : last ≡ after before (items_met s m)
  unfolding items_met
  all_met =
      outputs.met
      ∙ ap (λ o. after o (flat_map (tree_met (output m)) s.outputs)) (objective.met
      ∙ ap (λ o. after o (flat_map (λ at. met at (goal m s.goal)) (goal_place s.goal))) (constraints.met
      ∙ ap (λ o. after o (flat_map (tree_met (constraint m)) s.constraints)) (bodies.met
      ∙ ap (λ ms. after first ms) (sym (flat_same (function_met m) (met_by body_at (body_of_each m)) (numbered s.functions) (function_same m)))
      ∙ ap (λ o. after o (flat_map (function_met m) (numbered s.functions))) (values.met
      ∙ ap (λ ms. after before ms) (sym (flat_same (decl_met m) (met_by value_at (value_of_each m)) (numbered s.decls) (decl_same m)))))))
      ∙ sym (five_met before (flat_map (decl_met m) (numbered s.decls)) (flat_map (function_met m) (numbered s.functions)) (flat_map (tree_met (constraint m)) s.constraints) (flat_map (λ at. met at (goal m s.goal)) (goal_place s.goal)) (flat_map (tree_met (output m)) s.outputs))

  -- where nothing is met, all parts are typed
  parted : last ≡ None → AreParts s m p
  parted none =
      let at_fourth = none_before fourth (flat_map (met_by tree_place (output m)) s.outputs) (sym outputs.met ∙ none) in
      let at_third = none_before third (flat_map (λ at. met at (goal m s.goal)) (goal_place s.goal)) (sym objective.met ∙ at_fourth) in
      let at_second = none_before second (flat_map (met_by tree_place (constraint m)) s.constraints) (sym constraints.met ∙ at_third) in
      let at_first = none_before first (flat_map (met_by body_at (body_of_each m)) (numbered s.functions)) (sym bodies.met ∙ at_second) in
      record { values = values.typed at_first; bodies = bodies.typed at_second; constraints = constraints.typed at_third; goal = objective.is at_fourth; outputs = outputs.typed none }

  pub all_tested : AreAllTested s m before last p
  all_tested = record { met = all_met; typed = parted }

-- the test of the fault that is met first is that of all
pub items_tested : (s : ScopedTree) (m : Model) (last : Option Met) (p : Parts) → AreAllTested s m None last p → test_of last ≡ none_met (items_met s m)
items_tested s m last p t = ap test_of t.met ∙ sym (none_met_is (items_met s m))
