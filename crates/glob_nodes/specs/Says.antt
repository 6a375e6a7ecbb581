-- What nodes say under each reading.
use Rattle.std.specs.Prelude.{◌≡◌, ℕ, ◌+◌, ℤ, int_le, int_lt, List, [], ◌∷◌, length, Bool, not, ◌&&◌, ◌||◌, Option}
use Rattle.std.specs.Ordering.{int_eq}
use Rattle.mz_operations.specs.Numbers.{same}
use Rattle.mz_arena.specs.Values.{Term, as_number, bit, is_true, holds}
use Rattle.mz_symbol.specs.Runs.{Run}
use Rattle.mz_symbol.specs.Readings.{Reading, Reads, state_of}
use Rattle.glob_nodes.specs.declared.nodes.Compare.{Compare}
use Rattle.glob_nodes.specs.declared.nodes.Compare.TheVariants.{Equal, Differ, AtMost, Less}
use Rattle.glob_nodes.specs.declared.nodes.Join.{Join}
use Rattle.glob_nodes.specs.declared.nodes.Join.TheVariants.{Both, Either, Alike}

-- A NODE THAT GIVES A TERM: under each reading of the new run it has this term, and nothing but nodes was made
pub record Gives (old new : Run) (f : Reading → Term) (id : ℕ) : Type 0 where
  pub same : (r : Reading) → Reads r new → state_of r old ≡ state_of r new
  pub is : (r : Reading) → Reads r new → r.term id ≡ f r

-- A NODE THAT TELLS A TRUTH VALUE: it is true where this is
pub record Tells (old new : Run) (f : Reading → Bool) (id : ℕ) : Type 0 where
  pub same : (r : Reading) → Reads r new → state_of r old ≡ state_of r new
  pub tells : (r : Reading) → Reads r new → is_true (r.term id) ≡ f r

-- A NODE THAT IS A TRUTH VALUE: it is never undefined
pub record Says (old new : Run) (f : Reading → Bool) (id : ℕ) : Type 0 where
  pub same : (r : Reading) → Reads r new → state_of r old ≡ state_of r new
  pub is : (r : Reading) → Reads r new → r.term id ≡ bit (f r)
  pub tells : (r : Reading) → Reads r new → is_true (r.term id) ≡ f r

-- the integer that a node is, none where it is undefined
abbrev pub num : Reading → ℕ → Option ℤ
num r id = as_number (r.term id)

-- a comparison is false where a part is undefined
abbrev pub compares : Compare → Option ℤ → Option ℤ → Bool
compares Equal x y = holds x y int_eq
compares Differ x y = holds x y (λ i j. not (int_eq i j))
compares AtMost x y = holds x y int_le
compares Less x y = holds x y int_lt

abbrev pub joins : Join → Bool → Bool → Bool
joins Both a b = a && b
joins Either a b = a || b
joins Alike a b = same a b

-- what is told of each element, joined from the last one on
abbrev pub joined_each : {A : Type 0} → Join → (A → Bool) → List A → Bool → Bool
joined_each op p [] told = told
joined_each op p (x ∷ xs) told = joins op (p x) (joined_each op p xs told)

-- how many pairs of places there are
abbrev pub pair_count : {A : Type 0} → List A → ℕ
pair_count [] = 0
pair_count (x ∷ xs) = length xs + pair_count xs
