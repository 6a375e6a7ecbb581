-- WHAT A ROW TELLS WITHOUT NODES, from arguments whose values no node tells.
use Rattle.std.specs.Prelude.{◌≡◌, Bool, true, false, List, Option}
use Rattle.mz_value.specs.Contents.{Content}
use Rattle.mz_value.specs.Shown.{Names}
use Rattle.mz_operations.specs.declared.row.ScalarRow.{ScalarRow}
use Rattle.mz_operations.specs.declared.row.ScalarRow.TheVariants as scalar
use Rattle.mz_operations.specs.declared.row.MadeRow.TheVariants as made
use Rattle.mz_operations.specs.declared.row.Row.{Row}
use Rattle.mz_operations.specs.declared.row.Row.TheVariants.{Scalar, Made}
use Rattle.mz_operations.specs.Values.{value}
use Rattle.mz_meaning.specs.Cells.{held, is_par, value_of}
use Rattle.mz_meaning.specs.Exact.{exact_value}
use Rattle.mz_meaning.specs.Operations.{known_names}
use Rattle.mz_symbol.specs.Readings.{Reading}
use Rattle.mz_eval_cells.specs.declared.types.Known.{Known}
use Rattle.mz_eval_cells.specs.Views.{cell_of, seen}

-- a par cell that has a cell's value under each reading
pub record IsSettled (k x : Known) : Type 0 where
  pub par : is_par (cell_of x) ≡ true
  pub value : (r : Reading) → held r.mode (value_of (seen r k)) ≡ held r.mode (value_of (cell_of x))

-- a row of par arguments with these values has the value that it has of var ones: no partial result is asked to lie in the limit
pub record IsExact (row : Row) (vs : List (Option Content)) : Type 0 where
  pub value : (names : Names) → exact_value names row vs ≡ value names row vs
  pub shown : (names : Names) → known_names names row vs ≡ true

-- all rows but folds, powers and those that read bounds or names
abbrev pub is_plain_scalar : ScalarRow → Bool
is_plain_scalar (scalar.Fold op) = false
is_plain_scalar scalar.Power = false
is_plain_scalar w = true

abbrev pub is_plain : Row → Bool
is_plain (Scalar w) = is_plain_scalar w
is_plain (Made w) = true
is_plain row = false

abbrev pub is_fold : Row → Bool
is_fold (Scalar (scalar.Fold op)) = true
is_fold row = false

abbrev pub is_power : Row → Bool
is_power (Scalar scalar.Power) = true
is_power row = false

-- `assert` of three arguments
abbrev pub is_assert : Row → Bool
is_assert (Made made.AssertValue) = true
is_assert (Made made.AssertArray) = true
is_assert row = false
