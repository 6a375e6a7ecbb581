-- What posting a row leaves of the solutions.
use Rattle.std.proofs.Common.{pos, ◌∙◌, ◌≡◌, List, [], ◌∷◌, true, Some, refl, sym, ap₂, subst, Bool, false, ap}
use Rattle.std.specs.Prelude.{Result, Ok, Err, OnOk}
use Rattle.mz_arena.specs.declared.node.NodeKind.{NodeKind}
use Rattle.fz_program.specs.declared.row_name.RowName.{RowName}
use Rattle.fz_program.specs.declared.row_name.RowName.TheVariants as rows
use Rattle.fz_program.specs.declared.row_name.Kind.TheVariants.{Bool as Truth}
use Rattle.fz_program.specs.Arguments.{Plain, bool, Argument, one, array, plain_of}
use Rattle.fz_program.specs.Values as values
use Rattle.fz_program.specs.Flat.{Variable, Program, IsWellFormedRow, is_plain, plain_value, is_constant, same_kind}
use Rattle.fz_build.specs.Build.{constraint, with_row}
use Rattle.fz_build.specs.Growth.{Posts}
use Rattle.fz_build.specs.History.{Made, adds_row}
use Rattle.flat_reif_rows.specs.Making.{AreOperands, GoesOnMade}
use Rattle.flat_reif_rows.specs.RootRows.{test_of, test_inputs, Tests, truth_row, IsForced, IsEmptied}
use Rattle.flat_reif_rows.proofs.Sorts.{of_truth, no_array}
use Rattle.flat_reif_rows.proofs.Operands.{single_two}
use Rattle.flat_reif_rows.proofs.TestRows.{fits_test, forced_formed, forced_to, forced_from}

made_row : (old new : Program) (name : RowName) (args : List Argument) → IsWellFormedRow old.vars (constraint name args) → new ≡ with_row old (constraint name args) → GoesOnMade old new
made_row old new name args w e front n made = subst (λ p. Made front p n) (sym e) (adds_row old n name args made w)

module _ (k : NodeKind) (name : RowName) (row : test_of k ≡ Some name) (x y : Argument) where
  abbrev Both : List Plain
  Both = plain_of x ∷ plain_of y ∷ []

  singles : (p : Program) → AreOperands p.vars k Both → test_inputs k x y ≡ test_inputs k (one (plain_of x)) (one (plain_of y))
  singles p o = let s = single_two p.vars x y o.bounds o.suit in ap₂ (test_inputs k) s.0 s.1

  pub test_formed : (p : Program) → AreOperands p.vars k Both → IsWellFormedRow p.vars (constraint name (test_inputs k x y))
  test_formed p o =
      subst (λ is. IsWellFormedRow p.vars (constraint name is)) (sym (singles p o)) ((fits_test k name row (plain_of x) (plain_of y)).formed p.vars o.bounds o.suit o.known)

  pub tests_by : (old new : Program) → AreOperands old.vars k Both → new ≡ with_row old (constraint name (test_inputs k x y)) → Posts old new (constraint name (test_inputs k x y)) → Tests old new k Both
  tests_by old new o e g =
      let fits = fits_test k name row (plain_of x) (plain_of y) in
      let posts = subst (λ is. Posts old new (constraint name is)) (singles old o) g in
      record {
        same = posts.same;
        down = posts.down;
        holds = λ v f s. fits.to old.vars o.bounds o.suit o.known v f (posts.down f s).domains (posts.holds f s);
        up = λ v f s is. posts.up f s (fits.from old.vars o.bounds o.suit o.known v f s.domains is);
        made = made_row old new name (test_inputs k x y) (test_formed old o) e;
      }

-- a truth value's argument is no array
truth_single : (vs : List Variable) (x : Argument) → is_plain vs Truth (plain_of x) ≡ true → x ≡ one (plain_of x)
truth_single vs (one p) h = refl
truth_single vs (array ps) h = absurd (no_array of_truth vs h)

pub forced_row : (p : Program) (x : Argument) → is_plain p.vars Truth (plain_of x) ≡ true → IsWellFormedRow p.vars (truth_row x)
forced_row p x h = subst (λ z. IsWellFormedRow p.vars (truth_row z)) (sym (truth_single p.vars x h)) (forced_formed p.vars (plain_of x) h)

pub forced_by : (old new : Program) (x : Argument) → is_plain old.vars Truth (plain_of x) ≡ true → new ≡ with_row old (truth_row x) → Posts old new (truth_row x) → IsForced old new (plain_of x)
forced_by old new x h e g =
    let posts = subst (λ z. Posts old new (truth_row z)) (truth_single old.vars x h) g in
    record {
      same = posts.same;
      down = posts.down;
      holds = λ f s. forced_to old.vars (plain_of x) f h (posts.down f s).domains (posts.holds f s);
      up = λ f s is. posts.up f s (forced_from (plain_of x) f is);
      made = made_row old new rows.BoolEq (x ∷ one (bool true) ∷ []) (forced_row old x h) e;
    }

pub truth_constant : (vs : List Variable) (b : Bool) → is_plain vs Truth (bool b) ≡ true
unfolding is_plain is_constant same_kind
truth_constant vs b = refl

no_truth : values.number (pos 0) ≡ values.number (pos 1) → ⊥
no_truth h = absurd (cc)

pub emptied_by : (old new : Program) (x : Argument) → x ≡ one (bool false) → IsForced old new (plain_of x) → IsEmptied old new
emptied_by old new x e g = record { same = g.same; none = λ f s. no_truth (sym (ap (λ z. plain_value f (plain_of z)) e) ∙ g.holds f s); made = g.made }

-- what two clauses of one result give together
pub on_ok_both : {X Y : Type 0} (r : Result X Y) (P Q R : Type 0) → (P → Q → R) → OnOk r P → OnOk r Q → OnOk r R
on_ok_both (Ok x) P Q R f p q = f p q
on_ok_both (Err e) P Q R f p q = tt
