-- What a builder's calls add, and how the solutions of a program go on as it grows.
use Rattle.std.specs.Prelude.{◌≡◌, ◌⊎◌, ℕ, ◌+◌, ◌≤◌, List, [], ◌∷◌, ◌++◌, length, map, take, Some, slice_get}
use Rattle.mz_interval.specs.Ends.{Encloses}
use Rattle.fz_program.specs.declared.program.Domain.{Domain}
use Rattle.fz_program.specs.declared.row_name.RowName.{RowName}
use Rattle.fz_program.specs.Arguments.{Plain, var, Argument, plain_of}
use Rattle.fz_program.specs.Values.{Value, Values, number_in}
use Rattle.fz_program.specs.Flat.{Variable, Row, Program, AreInDomains, FlatSolves, RowHolds, IsInDomain, plain_value, argument_value}
use Rattle.fz_build.specs.Build.{IsArgumentOver, with_defined}
use Rattle.fz_build.specs.Results.{result_given}
use Rattle.fz_build.specs.Bounds.{ends_of}

-- ---- variables

-- each old variable stands where it stood
abbrev pub AreKept : List Variable → List Variable → Type 0
AreKept old new = (k : ℕ) (v : Variable) → slice_get old k ≡ Some v → slice_get new k ≡ Some v

-- a variable that stands among these, with this domain
pub record HasDomain (vs : List Variable) (p : Plain) (domain : Domain) : Type 0 where
  pub place : ℕ
  pub found : Variable
  pub is : p ≡ var place
  pub stands : slice_get vs place ≡ Some found
  pub same : found.domain ≡ domain

-- what an argument that is no array stands for
abbrev pub value_of : Values → Argument → Value
value_of f a = plain_value f (plain_of a)

-- the number that an argument stands for lies between its ends
abbrev pub EndsEnclose : List Variable → Plain → Type 0
EndsEnclose vs p = (f : Values) → AreInDomains vs f → Encloses (ends_of vs p) (number_in (plain_value f p))

-- ---- a variable or a row more

-- `out` is one more variable, of this domain, and no row speaks of it: it may have each value there.
pub record Declares (old new : Program) (domain : Domain) (out : Argument) : Type 0 where
  pub count : length new.vars ≡ length old.vars + 1
  pub kept : AreKept old.vars new.vars
  pub typed : HasDomain new.vars (plain_of out) domain
  pub down : (f : Values) → FlatSolves new f → FlatSolves old (take (length old.vars) f)
  pub inside : (f : Values) → FlatSolves new f → IsInDomain domain (value_of f out)
  pub up : (f : Values) (x : Value) → FlatSolves old f → IsInDomain domain x → FlatSolves new (f ++ x ∷ [])
  pub last : (f : Values) (x : Value) → FlatSolves old f → value_of (f ++ x ∷ []) out ≡ x
  pub one : (f g : Values) → FlatSolves new f → FlatSolves new g → take (length old.vars) f ≡ take (length old.vars) g → value_of f out ≡ value_of g out → f ≡ g

-- One more row, and the same variables: the solutions are those of the old program for which the row holds.
pub record Posts (old new : Program) (r : Row) : Type 0 where
  pub same : new.vars ≡ old.vars
  pub down : (f : Values) → FlatSolves new f → FlatSolves old f
  pub holds : (f : Values) → FlatSolves new f → RowHolds f r
  pub up : (f : Values) → FlatSolves old f → RowHolds f r → FlatSolves new f

-- ---- a variable that a row defines

-- the values go on to a solution
pub record GoesOn (p : Program) (f : Values) : Type 0 where
  pub rest : Values
  pub solves : FlatSolves p (f ++ rest)

-- A program that grew: each of its solutions begins with one of the old program. Each solution of the old for which `Can` holds goes on to one of the new, and to one alone.
pub record Grows (old new : Program) (Can : Values → Type 0) : Type 0 where
  pub longer : length old.vars ≤ length new.vars
  pub kept : AreKept old.vars new.vars
  pub down : (f : Values) → FlatSolves new f → FlatSolves old (take (length old.vars) f)
  pub up : (f : Values) → FlatSolves old f → Can f → GoesOn new f
  pub one : (f g : Values) → FlatSolves new f → FlatSolves new g → take (length old.vars) f ≡ take (length old.vars) g → f ≡ g

-- the inputs have a result, in the domain
pub record HasResult (name : RowName) (inputs : List Argument) (domain : Domain) (f : Values) : Type 0 where
  pub result : Value
  pub is : result_given name (map (argument_value f) inputs) ≡ Some result
  pub inside : IsInDomain domain result

-- `out` is a variable of this domain, and what the row gives of the inputs. This holds of a variable that is defined anew, and of one that such a row defined before.
pub record Defines (old new : Program) (name : RowName) (inputs : List Argument) (domain : Domain) (out : Argument) : Type 0 where
  pub grows : Grows old new (HasResult name inputs domain)
  pub typed : HasDomain new.vars (plain_of out) domain
  pub place : IsArgumentOver (length new.vars) out
  pub value : (f : Values) → FlatSolves new f → result_given name (map (argument_value f) inputs) ≡ Some (value_of f out)

-- the program with the variable and its row, or the old one, where such a row stood in it
abbrev pub IsAdded : Program → Program → RowName → List Argument → Domain → Type 0
IsAdded old new name inputs domain = (new ≡ old) ⊎ (new ≡ with_defined old name inputs domain)
