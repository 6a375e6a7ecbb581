-- Mirror of src/equality.rt and src/arrays.rt; private clauses only.
use Rattle.std.specs.Prelude.{◌≡◌, ◌*◌, ℕ, true, List, [], ◌∷◌, take, Some, None, IsSome, slice_get}
use Rattle.mz_core.specs.declared.types.Base.{Base}
use Rattle.mz_core.specs.declared.types.Base.TheVariants as base
use Rattle.mz_operations.specs.declared.row.ScalarRow.{ScalarRow}
use Rattle.mz_operations.specs.declared.row.ScalarRow.TheVariants as row
use Rattle.mz_instance.specs.Parts.{is_subset_sort, sort_of}
use Rattle.mz_model_meaning.specs.Decoded.{is_shape}
use Rattle.mz_symbol.specs.declared.types.Free.{Free}
use Rattle.mz_symbol.specs.declared.types.Symbol.{Symbol}
use Rattle.mz_symbol.specs.Symbols.{symbol_value, elements_value, AreWhole}
use Rattle.mz_symbol.specs.Runs.{Run}
use Rattle.mz_symbol.specs.Readings.{Reading, IsGiven, Reads, state_of}
use Rattle.mz_symbol.specs.Makes.{GoesOnBy}
use Rattle.mz_model_state.specs.Roots.{TestsOne}
use Rattle.mz_model_roots.specs.Rooted.{own_argument, IsEqualNode}

-- the row that tests two values of a base
abbrev pub equal_row : Base → ScalarRow
equal_row base.SetInt = row.SetEqual
equal_row (base.SetEnum e) = row.SetEqual
equal_row b = row.Equal

-- two symbols of one base, of which a set is no option
pub record AreOfOneBase (x y : Symbol) : Type 0 where
  pub same : y.base ≡ x.base
  pub shape : is_shape x.base ≡ true
  pub allowed : is_subset_sort (sort_of x.base) ≡ true → x.occurs ≡ None

-- the elements of a var array, and the node that is 1 where it is defined
pub record IsLineOf (s : Run) (line defined : ℕ) (ys : List Symbol) : Type 0 where
  pub value : (r : Reading) → Reads r s → r.line line ≡ elements_value r.term defined ys
  pub whole : (r : Reading) → Reads r s → AreWhole r.term defined ys

-- each of these nodes tests the place and the element with its number
abbrev pub TestArguments : Reading → List Free → List Symbol → List ℕ → Type 0
TestArguments r [] [] [] = Unit {0}
TestArguments r (f ∷ fs) (y ∷ ys) (i ∷ is) = (IsSome (symbol_value r.term f.symbol) → TestsOne (r.term i) (symbol_value r.term f.symbol) (own_argument r y)) × TestArguments r fs ys is
TestArguments r fs ys is = ⊥

pub record AreEqualNodes (s : Run) (fs : List Free) (ys : List Symbol) (ids : List ℕ) : Type 0 where
  pub tests : (r : Reading) → IsGiven r.mode → Reads r s → TestArguments r fs ys ids

pub record IsEqualAt (s : Run) (fs : List Free) (ys : List Symbol) (i id : ℕ) : Type 0 where
  pub node : (f : Free) (y : Symbol) → slice_get fs i ≡ Some f → slice_get ys i ≡ Some y → IsEqualNode s f.symbol y id

-- the first n places have their nodes
pub record AreSoFar (old new : Run) (fs : List Free) (ys : List Symbol) (n : ℕ) (ids : List ℕ) : Type 0 where
  pub goes : GoesOnBy (70 * n) old new
  pub same : (r : Reading) → Reads r new → state_of r old ≡ state_of r new
  pub nodes : AreEqualNodes new (take n fs) (take n ys) ids
