-- Nodes as integers that may be undefined, and sums of such.
use Rattle.std.specs.Prelude.{◌≡◌, ℕ, ℤ, pos, ◌+ℤ◌, ◌*ℤ◌, List, [], ◌∷◌, Option, Some, None}
use Rattle.mz_symbol.specs.Runs.{Run}
use Rattle.mz_symbol.specs.Readings.{Reading, Reads, state_of}
use Rattle.glob_nodes.specs.Says.{num}

-- A NODE THAT IS AN INTEGER: under each reading of the new run it is this one, or undefined, and nothing but nodes was made
pub record IsNumber (old new : Run) (f : Reading → Option ℤ) (id : ℕ) : Type 0 where
  pub same : (r : Reading) → Reads r new → state_of r old ≡ state_of r new
  pub is : (r : Reading) → Reads r new → num r id ≡ f r

abbrev pub plus : Option ℤ → Option ℤ → Option ℤ
plus None y = None
plus (Some i) None = None
plus (Some i) (Some j) = Some (i +ℤ j)

abbrev pub product : Option ℤ → Option ℤ → Option ℤ
product None y = None
product (Some i) None = None
product (Some i) (Some j) = Some (i *ℤ j)

-- what all elements add
abbrev pub added : {A : Type 0} → (A → Option ℤ) → List A → Option ℤ
added f [] = Some (pos 0)
added f (x ∷ xs) = plus (f x) (added f xs)
