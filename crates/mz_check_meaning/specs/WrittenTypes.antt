-- Written types: first all sets are typed, from left to right, and then they are tested.
use Rattle.std.specs.Prelude.{Bool, true, false, not, ◌&&◌, List, map, Option, Some, None, if◌then◌else◌, Ok}
use Rattle.mz_base.specs.declared.fault.Span.{Span}
use Rattle.mz_base.specs.declared.kind.Kind.TheVariants as kind
use Rattle.mz_core.specs.declared.types.Base.{Base}
use Rattle.mz_core.specs.declared.types.Base.TheVariants as base
use Rattle.mz_core.specs.declared.types.Ix.{Ix}
use Rattle.mz_core.specs.declared.types.Ix.TheVariants as ix
use Rattle.mz_core.specs.Tree.{Tree, DeclaredType, type_of, place_of}
use Rattle.mz_check_meaning.specs.Tests.{Test, ◌>>=◌, refuse, each}
use Rattle.mz_check_meaning.specs.Coerced.{coerced, scalar, is_set_type}
use Rattle.mz_check_meaning.specs.Arrays.{is_var}
use Rattle.mz_check_meaning.specs.Comprehensions.{member_of}

-- what stands where a type says which values there are: `bool`, `int`, or a set
pub data Based (A : Type 0) : Type 0 where
  of_bool : Based A
  of_int : Based A
  of_set : A → Based A

-- `{}` counts as a set of integers
abbrev pub with_base : Base → Tree → Tree
with_base base.SetBottom e = coerced e (scalar base.SetInt)
with_base b e = e

-- a par set of integers or of cases; else TypeMismatch at it
unfoldable pub par_set : Tree → Test Tree
par_set e =
    if is_set_type (type_of e) && not (is_var e) then Ok (with_base (type_of e).base e) else refuse kind.TypeMismatch (place_of e)

-- an index type, and the set that gives it
pub record Index : Type 0 where
  pub ty : Ix
  pub set : Option Tree

abbrev pub index_of : Base → Ix
index_of (base.SetEnum e) = ix.Enum e
index_of b = ix.Int

abbrev pub index_by : Tree → Index
index_by e = record { ty = index_of (type_of e).base; set = Some e }

-- `bool` is no index type: TypeMismatch at the type
unfoldable pub index : Span → Based Tree → Test Index
index at of_bool = refuse kind.TypeMismatch at
index at of_int = Ok (record { ty = ix.Int; set = None })
index at (of_set e) = par_set e >>= λ s. Ok (index_by s)

-- a base, and the set that gives it
pub record Values : Type 0 where
  pub base : Base
  pub set : Option Tree

abbrev pub values_by : Tree → Values
values_by e = record { base = member_of (type_of e).base; set = Some e }

unfoldable pub values : Based Tree → Test Values
values of_bool = Ok (record { base = base.Bool; set = None })
values of_int = Ok (record { base = base.Int; set = None })
values (of_set e) = par_set e >>= λ s. Ok (values_by s)

-- sets of integers and of cases; `set of bool` is refused at the type
unfoldable pub set_of_values : Span → Base → Test Base
set_of_values at (base.Enum e) = Ok (base.SetEnum e)
set_of_values at base.Int = Ok base.SetInt
set_of_values at b = refuse kind.TypeMismatch at

unfoldable pub declared_base : Span → Bool → Base → Test Base
declared_base at true b = set_of_values at b
declared_base at false b = Ok b

-- a type with the marks `var`, `opt` and `set of`, whose sets are typed
unfoldable pub declared : Span → Bool → Bool → Bool → List (Based Tree) → Based Tree → Test DeclaredType
declared at var opt set dims b = do
  is ← each (index at) dims
  v ← values b
  s ← declared_base at set v.base
  Ok (record { span = at; ty = record { var = var; opt = opt; base = s; dims = map (λ i. i.ty) is }; index = map (λ i. i.set) is; set = v.set })
