-- Worked examples of nodes over arguments, and of the inputs of their rows.
use Rattle.std.proofs.Common.{◌≡◌, pos, negsuc, [], ◌∷◌, true, false, Some, None, refl}
use Rattle.std.specs.List.{list_all}
use Rattle.mz_arena.specs.declared.node.NodeKind.TheVariants as kinds
use Rattle.mz_arena.specs.Values as terms
use Rattle.mz_arena.specs.Values.{bit, comparison_term, and_term, iff_term, to_int_term, member_term, arith_term, access_term, cons_term}
use Rattle.mz_operations.specs.Numbers.{computed}
use Rattle.mz_operations.specs.Sets.{contains}
use Rattle.mz_arena.specs.Extents.{whole, open_truth, comparison_extent, to_int_extent, wholes, access_extent}
use Rattle.fz_program.specs.declared.row_name.RowName.TheVariants as rows
use Rattle.fz_program.specs.Arguments.{bool, int, set, var, one, array}
use Rattle.fz_program.specs.Values.{Values, number}
use Rattle.flat_reif_rows.specs.Standing.{extent_over, term_over}
use Rattle.flat_reif_rows.specs.NodeRows.{inputs_of_two, sum_inputs, multiple_inputs}
use Rattle.flat_reif_rows.specs.Elements.{access_over, chosen_row, is_fixed}
use Rattle.flat_reif_rows.specs.RootRows.{test_of, test_inputs}

-- no term here reads a variable of the arena
abbrev any : terms.Values
any = record { number = λ i. pos 0; set = λ i. [] }

-- the flat program's variables are 1 and 3
abbrev values : Values
values = number (pos 1) ∷ number (pos 3) ∷ []

record Terms : Type 0 where
  pub equal : term_over any kinds.Eq (var 1 ∷ int (pos 3) ∷ []) values ≡ bit true
  pub below : term_over any kinds.Lt (var 1 ∷ int (pos 3) ∷ []) values ≡ bit false
  pub both : term_over any kinds.And (var 0 ∷ bool true ∷ []) values ≡ bit true
  pub same : term_over any kinds.Iff (var 0 ∷ bool false ∷ []) values ≡ bit false
  pub flag : term_over any kinds.ToInt (var 0 ∷ []) values ≡ Some (terms.number (pos 1))
  pub member : term_over any kinds.Member (var 1 ∷ set ((pos 1, pos 2) ∷ []) ∷ []) values ≡ bit false
  pub product : term_over any kinds.Mul (var 1 ∷ int (negsuc 4) ∷ []) values ≡ Some (terms.number (negsuc 14))
  pub by_zero : term_over any kinds.Div (var 1 ∷ int (pos 0) ∷ []) values ≡ None

terms_worked : Terms
unfolding comparison_term and_term iff_term to_int_term member_term arith_term computed contains
terms_worked = record { equal = refl; below = refl; both = refl; same = refl; flag = refl; member = refl; product = refl; by_zero = refl }

record Bounds : Type 0 where
  pub equal : extent_over kinds.Eq (Some (whole (pos 0, pos 9)) ∷ Some (whole (pos 3, pos 3)) ∷ []) ≡ open_truth
  pub no_integer : extent_over kinds.Eq (Some (whole (pos 0, pos 9)) ∷ open_truth ∷ []) ≡ None
  pub flag : extent_over kinds.ToInt (open_truth ∷ []) ≡ Some (whole (pos 0, pos 1))

bounds_worked : Bounds
unfolding comparison_extent to_int_extent
bounds_worked = record { equal = refl; no_integer = refl; flag = refl }

record Inputs : Type 0 where
  pub joined : inputs_of_two kinds.And (one (var 0)) (one (bool true)) ≡ array (var 0 ∷ bool true ∷ []) ∷ []
  pub each : inputs_of_two kinds.Le (one (var 1)) (one (int (pos 2))) ≡ one (var 1) ∷ one (int (pos 2)) ∷ []
  pub clause : test_inputs kinds.Or (one (var 0)) (one (bool true)) ≡ array (var 0 ∷ bool true ∷ []) ∷ array [] ∷ []
  pub sum : sum_inputs (one (var 1)) (one (int (pos 2))) ≡ array (int (pos 1) ∷ int (pos 1) ∷ []) ∷ array (var 1 ∷ int (pos 2) ∷ []) ∷ one (int (pos 0)) ∷ []
  pub multiple : multiple_inputs (negsuc 4) (one (var 1)) ≡ array (int (negsuc 4) ∷ []) ∷ array (var 1 ∷ []) ∷ one (int (pos 0)) ∷ []
  pub none : test_of kinds.And ≡ None

inputs_worked : Inputs
inputs_worked = record { joined = refl; each = refl; clause = refl; sum = refl; multiple = refl; none = refl }

record Accesses : Type 0 where
  pub second : access_over any (int (pos 2)) (int (pos 7) ∷ var 1 ∷ []) values ≡ Some (terms.number (pos 3))
  pub outside : access_over any (var 1) (int (pos 7) ∷ var 1 ∷ []) values ≡ None
  pub bounds : extent_over kinds.Access (Some (whole (pos 1, pos 2)) ∷ Some (wholes ((pos 0, pos 4) ∷ (pos 3, pos 9) ∷ [])) ∷ []) ≡ Some (whole (pos 0, pos 9))
  pub variable : chosen_row (list_all is_fixed (int (pos 7) ∷ var 1 ∷ [])) rows.ArrayVarIntElement ≡ rows.ArrayVarIntElement
  pub constant : chosen_row (list_all is_fixed (int (pos 7) ∷ int (pos 8) ∷ [])) rows.ArrayVarIntElement ≡ rows.ArrayIntElement

accesses_worked : Accesses
unfolding access_term cons_term access_extent
accesses_worked = record { second = refl; outside = refl; bounds = refl; variable = refl; constant = refl }
