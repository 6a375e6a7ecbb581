-- Mirror of src/powers.rt; private clauses only.
use Rattle.std.specs.Prelude.{◌≡◌, ℕ, pos, Bool, true, false, Some}
use Rattle.std.specs.Option.{option_map}
use Rattle.mz_operations.specs.declared.row.Arith.TheVariants.{Add, Mul}
use Rattle.mz_arena.specs.Values.{Term, as_number, arith_term, number}
use Rattle.mz_meaning.specs.Exact.{powered}
use Rattle.mz_symbol.specs.Runs.{Run}
use Rattle.mz_symbol.specs.Readings.{Reading, state_of}

-- 1 where an integer is defined
abbrev pub one_term : Term → Term
one_term x = arith_term Add (arith_term Mul x (Some (number (pos 0)))) (Some (number (pos 1)))

abbrev pub doubled_term : Bool → Term → Term → Term
doubled_term true x h = arith_term Mul (arith_term Mul h h) x
doubled_term false x h = arith_term Mul h h

-- the power of an integer
pub record Powers (r : Reading) (old new : Run) (x k id : ℕ) : Type 0 where
  pub same : state_of r old ≡ state_of r new
  pub is : as_number (r.term id) ≡ option_map (λ n. powered n k) (as_number (r.term x))
