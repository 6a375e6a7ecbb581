-- Where a free local may be evaluated.
use Rattle.std.specs.Prelude.{Bool, true, false, ◌||◌, List, [], ◌∷◌, Option, Some, None}
use Rattle.mz_core.specs.declared.types.Base.{Base}
use Rattle.mz_core.specs.declared.types.Coercion.{Coercion}
use Rattle.mz_core.specs.declared.types.Coercion.TheVariants as coercion
use Rattle.mz_core.specs.Coercions.{PathLink}
use Rattle.mz_operations.specs.declared.row.Connective.TheVariants.{Iff, Implies, IsImplied, Xor}
use Rattle.mz_operations.specs.declared.row.Quantifier.TheVariants.{Xorall}
use Rattle.mz_operations.specs.declared.row.ScalarRow.TheVariants.{Logic, Not, Order, Equal, Unequal, Quantified, Count, Clause, Ordinal}
use Rattle.mz_operations.specs.declared.row.Row.{Row}
use Rattle.mz_operations.specs.declared.row.Row.TheVariants.{Scalar}
use Rattle.mz_globals.specs.declared.global.Global.{Global}
use Rattle.mz_globals.specs.declared.global.Global.TheVariants.{Link}
use Rattle.mz_meaning.specs.Cells.{is_bool}

-- It is tested in a positive and in no other place; a run may leave it untested
pub data Context : Type 0 where
  Untested : Context
  Positive : Context
  Other : Context

-- a place where no free local may be evaluated: a condition, a `where`, a generator's set, and what follows
abbrev pub elsewhere : Context → Context
elsewhere Untested = Untested
elsewhere Positive = Other
elsewhere Other = Other

abbrev pub elsewhere_if : Bool → Context → Context
elsewhere_if true ctx = elsewhere ctx
elsewhere_if false ctx = ctx

-- THE ROWS WHOSE ARGUMENTS ARE SUCH PLACES, where these have this base: `<->`, `xor`, `not`; comparisons of Booleans; `bool2int`, `xorall`, `clause`, and `count` of Booleans
abbrev pub closes : Row → Base → Bool
closes (Scalar (Logic Iff)) b = true
closes (Scalar (Logic Xor)) b = true
closes (Scalar Not) b = true
closes (Scalar (Order op)) b = is_bool b
closes (Scalar Equal) b = is_bool b
closes (Scalar Unequal) b = is_bool b
closes (Scalar Ordinal) b = is_bool b
closes (Scalar (Quantified Xorall)) b = true
closes (Scalar Clause) b = true
closes (Scalar Count) b = true
closes _ b = false

-- the left side of `->`, and the right side of `<-`
abbrev pub closes_left : Row → Base → Bool
closes_left (Scalar (Logic Implies)) b = true
closes_left r b = closes r b

abbrev pub closes_right : Row → Base → Bool
closes_right (Scalar (Logic IsImplied)) b = true
closes_right r b = closes r b

-- and of the globals `link_set_to_booleans`
abbrev pub global_closes : Option Global → Bool
global_closes (Some Link) = true
global_closes _ = false

-- the coercion from bool to int
abbrev pub link_closes : Coercion → Bool
link_closes coercion.BoolToInt = true
link_closes _ = false

abbrev pub links_close : List PathLink → Bool
links_close [] = false
links_close (l ∷ ls) = link_closes l.0 || links_close ls

-- each function of contexts leaves Untested and Other as they are
abbrev pub within_links : Context → List PathLink → Context
within_links Untested ls = Untested
within_links Positive ls = elsewhere_if (links_close ls) Positive
within_links Other ls = Other
