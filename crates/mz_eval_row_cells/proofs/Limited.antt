-- The limit of bounds.
use Rattle.std.proofs.Common.{◌≡◌, refl, sym, ap, subst, ◌∙◌}
use Rattle.std.specs.Prelude.{Bool, true, false, ◌&&◌, Some, None, Result, Ok, Err, if◌then◌else◌}
use Rattle.mz_base.specs.declared.fault.Fault.{Fault}
use Rattle.mz_base.specs.declared.kind.Kind.TheVariants as Kind
use Rattle.mz_base.specs.declared.stop.Stop.{Stop}
use Rattle.mz_base.specs.declared.stop.Stop.TheVariants.{Refused}
use Rattle.mz_base.specs.declared.fault.Span.{Span}
use Rattle.mz_interval.specs.Ends.{Ends, is_number, if_in_limit}
use Rattle.mz_operations.specs.Bounds.{Bounds}
use Rattle.mz_operations.specs.Bounds as bounds
use Rattle.mz_meaning.specs.Runs.{State, Out, Stopped, fault}
use Rattle.mz_meaning.specs.Cells.{Var}
use Rattle.mz_eval_row_bounds.specs.Arguments.{numbers}
use Rattle.mz_eval_cells.specs.declared.types.Known.{Known}
use Rattle.mz_eval_cells.specs.Views.{cell_of}
use Rattle.mz_eval_cells.specs.Meets.{Tells}
use Rattle.mz_eval_row_cells.specs.Steps.{var_of, ends_of, first_outside}

some_same : {a b : Ends} → Some a ≡ Some b → a ≡ b
some_same h = cc

of_number : (b : Bounds) (e : Ends) → Some e ≡ ends_of b → b ≡ numbers e
of_number (bounds.one (bounds.number f)) e h = cc
of_number (bounds.one (bounds.sets l u)) e h = absurd (cc)
of_number (bounds.many ix bs) e h = absurd (cc)

of_others : (at : Span) (b : Bounds) (s : State) → None ≡ ends_of b → var_of at b s ≡ Out (Var b None) s
of_others at (bounds.one (bounds.number f)) s h = absurd (cc)
of_others at (bounds.one (bounds.sets l u)) s h = refl
of_others at (bounds.many ix bs) s h = refl

inside_answer : (at : Span) (e a : Ends) (p q : Bool) (s : State) → is_number e.0 ≡ p → is_number e.1 ≡ q → (if p && q then Some e else None) ≡ Some a → var_of at (numbers e) s ≡ Out (Var (numbers a) None) s
inside_answer at e a true true s h k i = rw (h, k) (ap (λ x. Out (Var (numbers x) None) s) (some_same i))
inside_answer at e a true false s h k i = absurd (cc)
inside_answer at e a false q s h k i = absurd (cc)

pub told_inside : (at : Span) (e a : Ends) (k : Known) → Some a ≡ if_in_limit e → cell_of k ≡ Var (numbers a) None → Tells cell_of (Ok k) (var_of at (numbers e))
told_inside at e a k h c = record { by = λ s. inside_answer at e a (is_number e.0) (is_number e.1) s refl refl (sym h) ∙ ap (λ x. Out x s) (sym c) }

outside_answer : (at : Span) (e : Ends) (p q : Bool) (s : State) → is_number e.0 ≡ p → is_number e.1 ≡ q → (if p && q then Some e else None) ≡ None → var_of at (numbers e) s ≡ Stopped (fault Kind.Bounds at (first_outside e))
outside_answer at e true true s h k i = absurd (cc)
outside_answer at e true false s h k i = rw (h, k) refl
outside_answer at e false q s h k i = rw h refl

pub told_outside : (at : Span) (e : Ends) (f : Fault) → None ≡ if_in_limit e → f ≡ fault Kind.Bounds at (first_outside e) → Tells {A = Known} cell_of (Err (Refused f)) (var_of at (numbers e))
told_outside at e f h g = record { by = λ s. outside_answer at e (is_number e.0) (is_number e.1) s refl refl (sym h) ∙ ap Stopped (sym g) }

-- the bounds of a value
pub told_number : (at : Span) (b : Bounds) (e : Ends) (r : Result Known Stop) → Some e ≡ ends_of b → Tells cell_of r (var_of at (numbers e)) → Tells cell_of r (var_of at b)
told_number at b e r h t = subst (λ x. Tells cell_of r (var_of at x)) (sym (of_number b e h)) t

pub told_others : (at : Span) (b : Bounds) (k : Known) → None ≡ ends_of b → cell_of k ≡ Var b None → Tells cell_of (Ok k) (var_of at b)
told_others at b k h c = record { by = λ s. of_others at b s h ∙ ap (λ x. Out x s) (sym c) }
