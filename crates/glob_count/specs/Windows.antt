-- Sums of consecutive elements, over integers that may be undefined; private clauses only, but for the value of a count.
use Rattle.std.specs.Prelude.{◌≡◌, ℕ, ℤ, pos, Bool, ◌&&◌, List, [], ◌∷◌, map, Option, Some}
use Rattle.mz_value.specs.Contents.{Content}
use Rattle.mz_value.specs.Contents as values
use Rattle.mz_symbol.specs.Runs.{Run}
use Rattle.mz_symbol.specs.Readings.{Reading, Reads, state_of}
use Rattle.mz_symbol.specs.Makes.{GoesOnBy}
use Rattle.glob_nodes.specs.declared.nodes.Compare.TheVariants.{AtMost}
use Rattle.glob_nodes.specs.Says.{compares, num}
use Rattle.glob_nodes.specs.Numbers.{plus}

-- a par count as an argument
abbrev pub count_value : ℕ → Option Content
count_value n = Some (values.int (pos n))

-- added from the left
abbrev pub left_sum : Option ℤ → List (Option ℤ) → Option ℤ
left_sum o [] = o
left_sum o (x ∷ xs) = left_sum (plus o x) xs

abbrev pub sum_in : Reading → List ℕ → Option ℤ
sum_in r ids = left_sum (Some (pos 0)) (map (num r) ids)

abbrev pub sum_fits : Reading → ℕ → ℕ → List ℕ → Bool
sum_fits r low up w = compares AtMost (num r low) (sum_in r w) && compares AtMost (sum_in r w) (num r up)

-- the sum so far, with what is left
pub record SumOnward (n : ℕ) (old new : Run) (all rest : List ℕ) (acc : ℕ) : Type 0 where
  pub goes : GoesOnBy n old new
  pub same : (r : Reading) → Reads r new → state_of r old ≡ state_of r new
  pub onward : (r : Reading) → Reads r new → left_sum (num r acc) (map (num r) rest) ≡ sum_in r all
