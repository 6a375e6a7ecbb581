-- Trees that are coerced to a type above theirs, and the tests of types.
use Rattle.std.specs.Prelude.{Bool, true, false, ◌||◌, ◌&&◌, List, [], ◌∷◌, if◌then◌else◌, Ok}
use Rattle.mz_base.specs.declared.fault.Span.{Span}
use Rattle.mz_base.specs.declared.kind.Kind.TheVariants as kind
use Rattle.mz_core.specs.declared.types.Base.{Base}
use Rattle.mz_core.specs.declared.types.Base.TheVariants as base
use Rattle.mz_core.specs.declared.types.Ix.TheVariants as ix
use Rattle.mz_core.specs.Types.{PlainType, is_set, is_allowed}
use Rattle.mz_core.specs.Coercions.{PathLink}
use Rattle.mz_core.specs.Order.{below, no_dims}
use Rattle.mz_core.specs.Paths.{coercions}
use Rattle.mz_core.specs.Tree.{Tree, node, coerce, type_of, place_of}
use Rattle.mz_check_meaning.specs.Tests.{Test, refuse}

-- a tree under these coercions, each at this place
unfoldable pub wrapped : Span → Tree → List PathLink → Tree
wrapped at e [] = e
wrapped at e (l ∷ ls) = wrapped at (node at l.1 (coerce l.0 e)) ls

-- the coercions that lead from a type to one above it; none where it isn't above it, which is never asked for
unfoldable pub coercions_to : PlainType → PlainType → List PathLink
coercions_to t u = if below t u then coercions t u else []

unfoldable pub coerced : Tree → PlainType → Tree
coerced e t = wrapped (place_of e) e (coercions_to (type_of e) t)

-- each to its own type
unfoldable pub all_coerced : List Tree → List PlainType → List Tree
all_coerced [] ts = []
all_coerced (e ∷ es) [] = e ∷ all_coerced es []
all_coerced (e ∷ es) (t ∷ ts) = coerced e t ∷ all_coerced es ts

-- TYPES

abbrev pub scalar : Base → PlainType
scalar b = record { var = false; opt = false; base = b; dims = [] }

abbrev pub bool_type : PlainType
bool_type = scalar base.Bool

abbrev pub int_type : PlainType
int_type = scalar base.Int

abbrev pub text_type : PlainType
text_type = scalar base.Text

-- `<>`
abbrev pub absent_type : PlainType
absent_type = record { var = false; opt = true; base = base.Bottom; dims = [] }

-- the elements of `[]`
abbrev pub bottom_type : PlainType
bottom_type = scalar base.Bottom

abbrev pub element_of : PlainType → PlainType
element_of t = record t { dims = [] }

abbrev pub list_of : PlainType → PlainType
list_of t = record t { dims = ix.Int ∷ [] }

abbrev pub table_of : PlainType → PlainType
table_of t = record t { dims = ix.Int ∷ ix.Int ∷ [] }

-- var where this is so
abbrev pub made_var : Bool → PlainType → PlainType
made_var v t = record t { var = t.var || v }

abbrev pub is_scalar : PlainType → Bool
is_scalar t = no_dims t.dims

abbrev pub is_set_type : PlainType → Bool
is_set_type t = is_set t.base && is_scalar t

-- this base, par or var as the tree is
abbrev pub as_var : Tree → Base → PlainType
as_var e b = record { var = (type_of e).var; opt = false; base = b; dims = [] }

-- TESTS

abbrev pub is_below : Tree → PlainType → Bool
is_below e t = below (type_of e) t

-- the tree, coerced to a type that its place needs; else TypeMismatch at it
unfoldable pub fitted : Tree → PlainType → Test Tree
fitted e t = if is_below e t then Ok (coerced e t) else refuse kind.TypeMismatch (place_of e)

-- a condition: a Boolean, par or var
unfoldable pub condition : Tree → Test Tree
condition e = fitted e (as_var e base.Bool)

-- a type that there is; else TypeMismatch
unfoldable pub allowed_at : Span → PlainType → Test PlainType
allowed_at at t = if is_allowed t then Ok t else refuse kind.TypeMismatch at
