-- Mirror of src/nodes.rt, src/walk.rt and src/rows.rt; private clauses only.
use Rattle.std.specs.Prelude.{◌≡◌, ◌≤◌, ◌*◌, ℕ, Bool, true, false, List, drop, slice_get, Option, Some, None}
use Rattle.mz_value.specs.Ranges.{Range}
use Rattle.mz_value.specs.Contents.{Content}
use Rattle.mz_core.specs.declared.types.Base.{Base}
use Rattle.mz_core.specs.declared.types.Base.TheVariants as base
use Rattle.mz_operations.specs.declared.row.SetOp.{SetOp}
use Rattle.mz_operations.specs.Arrays.{fold_from}
use Rattle.mz_operations.specs.Sets.{combined}
use Rattle.mz_operations.specs.Views as views
use Rattle.mz_arena.specs.Values.{as_set}
use Rattle.mz_symbol.specs.declared.types.Symbol.{Symbol}
use Rattle.mz_symbol.specs.Symbols.{symbol_value}
use Rattle.mz_symbol.specs.Runs.{Run}
use Rattle.mz_symbol.specs.Readings.{Reading, Reads, state_of}
use Rattle.mz_symbol.specs.Makes.{GoesOnBy}

abbrev pub is_set : Base → Bool
is_set base.SetInt = true
is_set (base.SetEnum e) = true
is_set b = false

pub record IsSetNode (id : ℕ) (s : Symbol) : Type 0 where
  pub set : is_set s.base ≡ true
  pub plain : s.occurs ≡ None
  pub term : s.term ≡ id

-- what is made of a set and those of a list
abbrev pub sets_on : SetOp → List Range → List Content → Option (List Range)
sets_on op s xs = fold_from views.as_set (combined op) s xs

pub record Follows (op : SetOp) (xs : List Content) (i : ℕ) (s : List Range) (v : Option (List Range)) : Type 0 where
  pub element : Content
  pub at : slice_get xs i ≡ Some element
  pub set : List Range
  pub seen : views.as_set element ≡ Some set
  pub is : v ≡ Some (combined op s set)

-- one set more
pub record Advances (r : Reading) (old new : Run) (op : SetOp) (k i acc id : ℕ) : Type 0 where
  pub same : state_of r old ≡ state_of r new
  pub next : (xs : List Content) → r.line k ≡ Some xs → (s : List Range) → as_set (r.term acc) ≡ Some s → Follows op xs i s (as_set (r.term id))

pub record HasFolded (op : SetOp) (xs : List Content) (from i : ℕ) (s : List Range) (v : Option (List Range)) : Type 0 where
  pub set : List Range
  pub is : v ≡ Some set
  pub rest : sets_on op s (drop from xs) ≡ sets_on op set (drop i xs)

-- the elements from a place on
pub record Folds (r : Reading) (old new : Run) (op : SetOp) (k from i first id : ℕ) : Type 0 where
  pub same : state_of r old ≡ state_of r new
  pub so_far : (xs : List Content) → r.line k ≡ Some xs → (s : List Range) → as_set (r.term first) ≡ Some s → HasFolded op xs from i s (as_set (r.term id))

-- and what they cost
pub record HasMade (old new : Run) (op : SetOp) (k from n i first id : ℕ) : Type 0 where
  pub goes : GoesOnBy (4 * i) old new
  pub within : i ≤ n
  pub folds : (r : Reading) → Reads r new → Folds r old new op k from i first id

-- a symbol that is undefined
pub record IsLost (r : Reading) (old new : Run) (s : Symbol) : Type 0 where
  pub same : state_of r old ≡ state_of r new
  pub undefined : symbol_value r.term s ≡ None
