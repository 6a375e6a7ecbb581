-- Mirror of src/walk.rt; private clauses only.
use Rattle.std.specs.Prelude.{◌≡◌, ℕ, ℤ, List, drop, slice_get, Option, Some}
use Rattle.mz_value.specs.Contents.{Content}
use Rattle.mz_value.specs.Contents as values
use Rattle.mz_operations.specs.declared.row.Arith.{Arith}
use Rattle.mz_operations.specs.declared.row.Arith.TheVariants.{Add, Mul}
use Rattle.mz_operations.specs.declared.row.Fold.{Fold}
use Rattle.mz_operations.specs.declared.row.Fold.TheVariants.{Sum, SumOfOptions, Product}
use Rattle.mz_operations.specs.Numbers.{fold_start}
use Rattle.mz_operations.specs.Arrays.{fold_from, summand}
use Rattle.mz_meaning.specs.Exact.{joined}
use Rattle.mz_symbol.specs.declared.types.Symbol.{Symbol}
use Rattle.mz_symbol.specs.Symbols.{symbol_value}
use Rattle.mz_symbol.specs.Runs.{Run}
use Rattle.mz_symbol.specs.Readings.{Reading, IsGiven, state_of}

abbrev pub arith_of : Fold → Arith
arith_of Sum = Add
arith_of SumOfOptions = Add
arith_of Product = Mul

-- the fold of what is left, from what there is so far
abbrev pub fold_on : Fold → ℤ → List Content → Option ℤ
fold_on op n xs = fold_from (summand op) (joined op) n xs

pub record CountsAs (op : Fold) (x : Content) (v : Option Content) : Type 0 where
  pub number : ℤ
  pub counts : summand op x ≡ Some number
  pub is : v ≡ Some (values.int number)

-- an element as an integer
pub record Counts (r : Reading) (old new : Run) (op : Fold) (y s : Symbol) : Type 0 where
  pub same : state_of r old ≡ state_of r new
  pub told : IsGiven r.mode → (x : Content) → symbol_value r.term y ≡ Some x → CountsAs op x (symbol_value r.term s)

-- what is made of the elements before, with one more
pub record Joins (r : Reading) (old new : Run) (op : Fold) (acc y s : Symbol) : Type 0 where
  pub same : state_of r old ≡ state_of r new
  pub told : IsGiven r.mode → (n m : ℤ) → symbol_value r.term acc ≡ Some (values.int n) → symbol_value r.term y ≡ Some (values.int m) → symbol_value r.term s ≡ Some (values.int (joined op n m))

pub record Follows (op : Fold) (xs : List Content) (i : ℕ) (n : ℤ) (v : Option Content) : Type 0 where
  pub element : Content
  pub at : slice_get xs i ≡ Some element
  pub number : ℤ
  pub counts : summand op element ≡ Some number
  pub is : v ≡ Some (values.int (joined op n number))

-- one element more
pub record Advances (r : Reading) (old new : Run) (op : Fold) (k i : ℕ) (acc s : Symbol) : Type 0 where
  pub same : state_of r old ≡ state_of r new
  pub next : IsGiven r.mode → (xs : List Content) → r.line k ≡ Some xs → (n : ℤ) → symbol_value r.term acc ≡ Some (values.int n) → Follows op xs i n (symbol_value r.term s)

pub record HasFolded (op : Fold) (xs : List Content) (i : ℕ) (v : Option Content) : Type 0 where
  pub number : ℤ
  pub is : v ≡ Some (values.int number)
  pub rest : fold_on op (fold_start op) xs ≡ fold_on op number (drop i xs)

-- the first elements
pub record Folds (r : Reading) (old new : Run) (op : Fold) (k i : ℕ) (first s : Symbol) : Type 0 where
  pub same : state_of r old ≡ state_of r new
  pub so_far : IsGiven r.mode → (xs : List Content) → r.line k ≡ Some xs → symbol_value r.term first ≡ Some (values.int (fold_start op)) → HasFolded op xs i (symbol_value r.term s)
