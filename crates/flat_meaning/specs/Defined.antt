-- WHICH ROWS DEFINE WHICH VARIABLES: each variable that is marked as defined by exactly one, and no other by any.
use Rattle.std.specs.Prelude.{◌≡◌, ◌⊎◌, ℕ, ◌<◌, List, [], ◌∷◌, length, filter, Bool, true, false, not, Option, Some, None, nat_eq, slice_get}
use Rattle.std.specs.List.{AllByRecursion}
use Rattle.fz_program.specs.Arguments.{Plain, var, Argument, one, array}
use Rattle.fz_program.specs.Flat.{Variable, Row, Program}

abbrev pub is_defining : ℕ → Option ℕ → Bool
is_defining k None = false
is_defining k (Some j) = nat_eq j k

-- the rows that define a variable
abbrev pub defining : ℕ → List Row → List Row
defining k rows = filter (λ (r : Row). is_defining k r.defines) rows

-- it is the variable k itself, or one before it, or none
abbrev pub IsUpTo : ℕ → Plain → Type 0
IsUpTo k (var j) = (j ≡ k) ⊎ (j < k)
IsUpTo k p = Unit {0}

abbrev pub IsArgumentUpTo : ℕ → Argument → Type 0
IsArgumentUpTo k (one p) = IsUpTo k p
IsArgumentUpTo k (array ps) = AllByRecursion (IsUpTo k) ps

-- by exactly one row, whose other arguments come before it
pub record IsDefinedOnce (rows : List Row) (k : ℕ) : Type 0 where
  pub row : Row
  pub only : defining k rows ≡ row ∷ []
  pub before : AllByRecursion (IsArgumentUpTo k) row.args

abbrev pub IsDefinedBy : Bool → List Row → ℕ → Type 0
IsDefinedBy true rows k = IsDefinedOnce rows k
IsDefinedBy false rows k = defining k rows ≡ []

-- how many introduced variables no row defines
abbrev pub free_count : List Variable → ℕ
free_count vs = length (filter (λ (v : Variable). not v.defined) vs)

-- DEFINED ONCE, with this many introduced variables that no row defines: the choices
pub record DefinedOnce (p : Program) (introduced : List Variable) (choices : ℕ) : Type 0 where
  pub rows : (k : ℕ) (v : Variable) → slice_get p.vars k ≡ Some v → IsDefinedBy v.defined p.rows k
  pub free : free_count introduced ≡ choices
