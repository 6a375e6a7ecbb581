-- An argument that is a truth value lies in 0..1.
use Rattle.std.proofs.Common.{◌≡◌, ℤ, ◌≤ℤ◌, true, false, List, Option, Some, None, slice_get, refl, sym, ap, subst, ◌∙◌, arith}
use Rattle.std.proofs.lemmas.Int.{ints}
use Rattle.mz_value.specs.Ranges.{Range}
use Rattle.mz_interval.specs.Ends.{Ends, if_interval}
use Rattle.mz_operations.specs.Bounds as bounds
use Rattle.fz_program.specs.declared.program.Domain.{Domain}
use Rattle.fz_program.specs.declared.program.Domain.TheVariants.{Bool as Truths, Ints as Integers, SetOf}
use Rattle.fz_program.specs.declared.row_name.Kind.TheVariants.{Bool as Truth}
use Rattle.fz_program.specs.Arguments.{Plain, bool, int, set, var, nested}
use Rattle.fz_program.specs.Flat.{Variable, same_kind, kind_of_domain, is_kind, is_constant, is_plain}
use Rattle.fz_build.specs.Bounds.{ends_of, variable_ends, domain_ends}
use Rattle.flat_reif_rows.specs.Standing.{LiesWithin}

truth_domain : (d : Domain) (v : Variable) → v.domain ≡ d → same_kind Truth (kind_of_domain d) ≡ true → variable_ends (Some v) ≡ bounds.truth
unfolding same_kind kind_of_domain
truth_domain Truths v e h = ap domain_ends e
truth_domain (Integers s) v e h = absurd (cc)
truth_domain (SetOf s) v e h = absurd (cc)

truth_variable : (o : Option Variable) → is_kind o Truth ≡ true → variable_ends o ≡ bounds.truth
truth_variable None h = absurd (cc)
truth_variable (Some v) h = truth_domain v.domain v refl h

int_no_truth : {A : Type 0} (n : ℤ) → is_constant Truth (int n) ≡ true → A
unfolding is_constant same_kind
int_no_truth n h = absurd (cc)

set_no_truth : {A : Type 0} (t : List Range) → is_constant Truth (set t) ≡ true → A
unfolding is_constant same_kind
set_no_truth t h = absurd (cc)

array_no_truth : {A : Type 0} → is_constant Truth nested ≡ true → A
unfolding is_constant
array_no_truth h = absurd (cc)

module _ (vs : List Variable) where
  open_within : (p : Plain) → is_plain vs Truth p ≡ true → ends_of vs p ≡ bounds.truth → LiesWithin Truth vs p bounds.truth
  open_within p h e = record { sort = h; interval = ap if_interval e ∙ sym (ap Some e); from = subst (λ (g : Ends). bounds.truth.0 ≤ℤ g.0) (sym e) (omega (arith, ints)); to = subst (λ (g : Ends). g.1 ≤ℤ bounds.truth.1) (sym e) (omega (arith, ints)) }

  pub truth_within : (p : Plain) → is_plain vs Truth p ≡ true → LiesWithin Truth vs p bounds.truth
  unfolding is_plain
  truth_within (var k) h = open_within (var k) h (truth_variable (slice_get vs k) h)
  truth_within (bool true) h = record { sort = h; interval = refl; from = omega (arith, ints); to = omega (arith, ints) }
  truth_within (bool false) h = record { sort = h; interval = refl; from = omega (arith, ints); to = omega (arith, ints) }
  truth_within (int n) h = int_no_truth n h
  truth_within (set t) h = set_no_truth t h
  truth_within nested h = array_no_truth h
