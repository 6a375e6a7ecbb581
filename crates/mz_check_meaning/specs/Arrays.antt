-- Array and set literals, and accesses: what holds of them when all their parts are typed.
use Rattle.std.specs.Prelude.{Bool, not, List, map, length, nat_eq, if◌then◌else◌, Ok}
use Rattle.std.specs.List.{list_any, flat_map, zip}
use Rattle.mz_base.specs.declared.fault.Span.{Span}
use Rattle.mz_base.specs.declared.kind.Kind.TheVariants as kind
use Rattle.mz_core.specs.declared.types.Base.{Base}
use Rattle.mz_core.specs.declared.types.Base.TheVariants as base
use Rattle.mz_core.specs.declared.types.Ix.{Ix}
use Rattle.mz_core.specs.declared.types.Ix.TheVariants as ix
use Rattle.mz_core.specs.Types.{PlainType}
use Rattle.mz_core.specs.Join.{join}
use Rattle.mz_core.specs.Tree.{Tree, node, array, rows, set, access, trees, rows_of, type_of, place_of}
use Rattle.mz_check_meaning.specs.Tests.{Test, ◌>>=◌, ◌>>◌, refuse, require, found, loop, each}
use Rattle.mz_check_meaning.specs.Coerced.{coerced, fitted, is_below, as_var, scalar, bottom_type, element_of, list_of, table_of, made_var, is_scalar, is_set_type, allowed_at}

-- ARRAYS

-- the join with one more tree; TypeMismatch at a tree that doesn't fit
unfoldable pub join_next : PlainType → Tree → Test PlainType
join_next t e = found kind.TypeMismatch (place_of e) (join t (type_of e))

-- no array is an element
abbrev pub element_next : PlainType → Tree → Test PlainType
element_next t e = require (is_scalar (type_of e)) kind.TypeMismatch (place_of e) >> join_next t e

abbrev pub elements_join : List Tree → Test PlainType
elements_join es = loop element_next bottom_type es

abbrev pub each_to : PlainType → List Tree → List Tree
each_to t es = map (λ e. coerced e t) es

-- `[..]`
unfoldable pub listed : Span → List Tree → Test Tree
listed at es = elements_join es >>= λ t. Ok (node at (list_of t) (array (trees (each_to t es))))

abbrev pub all_in : List (List Tree) → List Tree
all_in rs = flat_map (λ r. r) rs

-- `[| .. |]`, whose rows may differ in length here
unfoldable pub tabled : Span → List (List Tree) → Test Tree
tabled at rs = elements_join (all_in rs) >>= λ t. Ok (node at (table_of t) (rows (rows_of (map (each_to t) rs))))

-- SETS

abbrev pub is_var : Tree → Bool
is_var e = (type_of e).var

-- an element of a set: a Boolean counts as an integer
abbrev pub member_base : Base → Base
member_base base.Bool = base.Int
member_base b = b

-- the set of elements of a base
abbrev pub set_base : Base → Base
set_base (base.Enum e) = base.SetEnum e
set_base base.Bottom = base.SetBottom
set_base b = base.SetInt

-- an element is below int, par or var
abbrev pub member_next : PlainType → Tree → Test PlainType
member_next t e = require (is_below e (as_var e base.Int)) kind.TypeMismatch (place_of e) >> join_next t e

-- `{..}`: an element that is var is left out
unfoldable pub set_literal : Span → List Tree → Test Tree
set_literal at es = do
  t ← loop member_next bottom_type es
  require (not (list_any is_var es)) kind.LeftOut at
  Ok (node at (scalar (set_base t.base)) (set (trees (each_to (scalar (member_base t.base)) es))))

-- ACCESSES

abbrev pub index_base : Ix → Base
index_base ix.Int = base.Int
index_base (ix.Enum e) = base.Enum e

-- a set as an index is left out, at the whole access
abbrev pub index_fitted : Span → Tree → Ix → Test Tree
index_fitted at e x =
    if is_set_type (type_of e) then refuse kind.LeftOut at else fitted e (as_var e (index_base x))

abbrev pub index_pair : Span → Tree × Ix → Test Tree
index_pair at p = index_fitted at p.0 p.1

-- each index with its index type, from the left
unfoldable pub indices_fitted : Span → List Tree → List Ix → Test (List Tree)
indices_fitted at es xs = each (index_pair at) (zip es xs)

abbrev pub element_type : Tree → List Tree → PlainType
element_type e es = made_var (list_any is_var es) (element_of (type_of e))

unfoldable pub accessed : Span → Tree → List Tree → Test Tree
accessed at e es = do
  require (not (is_scalar (type_of e))) kind.TypeMismatch (place_of e)
  require (nat_eq (length es) (length (type_of e).dims)) kind.TypeMismatch at
  is ← indices_fitted at es (type_of e).dims
  t ← allowed_at at (element_type e es)
  Ok (node at t (access e (trees is)))
