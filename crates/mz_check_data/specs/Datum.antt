-- WHAT A VALUE OF A DATA FILE IS TYPED TO, against a declared type. It is typed as the expression that it reads as, all of whose nodes
-- have the value's place, and it fits where its type is below the declared one; but a list fits arrays of every shape, rows fit arrays
-- of two dimensions, and each index set of an array fits its index; `array1d(1..0, [])` fits each index, as `[]` does. What doesn't fit is
-- DataForm at the value.
use Rattle.std.specs.Prelude.{ℕ, ℤ, Bool, true, false, ◌&&◌, List, [], ◌∷◌, ◌++◌, length, Option, None, Some, nat_eq, int_lt, codes, if◌then◌else◌, Ok, Err}
use Rattle.std.specs.List.{list_all, zip}
use Rattle.mz_base.specs.declared.fault.Span.{Span}
use Rattle.mz_base.specs.declared.kind.Kind.TheVariants as kind
use Rattle.mz_core.specs.declared.types.Base.TheVariants as base
use Rattle.mz_core.specs.declared.types.Ix.{Ix}
use Rattle.mz_core.specs.declared.types.Ix.TheVariants as ix
use Rattle.mz_core.specs.Types.{PlainType}
use Rattle.mz_core.specs.Tree as typed
use Rattle.mz_core.specs.Tree.{Tree, node}
use Rattle.mz_tree.specs.Tree.{Name}
use Rattle.mz_tree.specs.Data as pure
use Rattle.mz_tree.specs.Data.{Value, Values, Lines, Given}
use Rattle.mz_check_meaning.specs.declared.meaning.Meaning.{Meaning}
use Rattle.mz_check_meaning.specs.declared.meaning.Meaning.TheVariants as meaning
use Rattle.mz_check_meaning.specs.Tests.{Test, ◌>>=◌, ◌>>◌, refuse, require, each}
use Rattle.mz_check_meaning.specs.Models.{entry_of}
use Rattle.mz_check_meaning.specs.Coerced.{fitted, scalar, bool_type, int_type, absent_type, is_scalar, list_of, table_of}
use Rattle.mz_check_meaning.specs.Arrays.{listed, tabled, set_literal}
use Rattle.mz_check_meaning.specs.Calls.{par, row_node}

-- what the names of a model stand for
abbrev pub Meanings : Type 0
Meanings = List (Name × Meaning)

-- the parts of a value, as lists

abbrev pub list_in : Values → List Value
list_in pure.no_values = []
list_in (pure.a_value v vs) = v ∷ list_in vs

abbrev pub lines_in : Lines → List (List Value)
lines_in pure.no_lines = []
lines_in (pure.a_line l ls) = list_in l ∷ lines_in ls

-- ---- values without elements

-- An identifier is a case, or an enum, which stands for the set of its cases. Any other name fits nothing, also one that nothing declares
unfoldable pub name_tree : Span → Option Meaning → Test Tree
name_tree at (Some (meaning.Case e k)) = Ok (node at (scalar (base.Enum e)) (typed.case e k))
name_tree at (Some (meaning.Enum e)) = Ok (node at (scalar (base.SetEnum e)) (typed.enum_set e))
name_tree at x = refuse kind.DataForm at

-- a truth value, an integer or an identifier
unfoldable pub one_tree : Meanings → Span → Value → Test Tree
one_tree ms at (pure.bool b) = Ok (node at bool_type (typed.bool b))
one_tree ms at (pure.int n) = Ok (node at int_type (typed.int n))
one_tree ms at (pure.ident n) = name_tree at (entry_of n ms)
one_tree ms at v = refuse kind.DataForm at

-- ---- sets

-- a range is a call of `..`
unfoldable pub range_tree : Meanings → Span → Value → Value → Test Tree
range_tree ms at v w = do
  low ← one_tree ms at v
  high ← one_tree ms at w
  row_node at (codes "..") (low ∷ high ∷ [])

unfoldable pub set_tree : Meanings → Span → Values → Test Tree
set_tree ms at vs = each (one_tree ms at) (list_in vs) >>= set_literal at

-- a value that may be an element of an array
unfoldable pub plain_tree : Meanings → Span → Value → Test Tree
plain_tree ms at pure.absent = Ok (node at absent_type typed.absent)
plain_tree ms at (pure.range v w) = range_tree ms at v w
plain_tree ms at (pure.set vs) = set_tree ms at vs
plain_tree ms at v = one_tree ms at v

-- ---- arrays

unfoldable pub list_tree : Meanings → Span → Values → Test Tree
list_tree ms at vs = each (plain_tree ms at) (list_in vs) >>= listed at

abbrev pub has_length : ℕ → List Value → Bool
has_length n vs = nat_eq (length vs) n

abbrev pub are_level : List (List Value) → Bool
are_level [] = true
are_level (l ∷ ls) = list_all (has_length (length l)) ls

-- rows, all of one length
unfoldable pub rows_tree : Meanings → Span → Lines → Test Tree
rows_tree ms at ls = do
  require (are_level (lines_in ls)) kind.DataForm at
  rs ← each (each (plain_tree ms at)) (lines_in ls)
  tabled at rs

-- the type of the sets that an index of this type may run over
abbrev pub index_set_type : Ix → PlainType
index_set_type ix.Int = scalar base.SetInt
index_set_type (ix.Enum e) = scalar (base.SetEnum e)

-- an index set, and the type of its index
unfoldable pub index_set_tree : Meanings → Span → Value × Ix → Test Tree
index_set_tree ms at p = plain_tree ms at p.0 >>= λ e. fitted e (index_set_type p.1)

-- the call that makes an array of this many dimensions
abbrev pub array_call : ℕ → List ℕ
array_call n =
    if nat_eq n 1 then codes "array1d" else
    (if nat_eq n 2 then codes "array2d" else
    (if nat_eq n 3 then codes "array3d" else
    (if nat_eq n 4 then codes "array4d" else
    (if nat_eq n 5 then codes "array5d" else codes "array6d"))))

-- an array with index sets: one for each dimension of the declared type. Its list is a node of its own
unfoldable pub shaped_tree : Meanings → Span → PlainType → Values → Values → Test Tree
shaped_tree ms at u ss vs = do
  require (nat_eq (length (list_in ss)) (length u.dims)) kind.DataForm at
  sets ← each (index_set_tree ms at) (zip (list_in ss) u.dims)
  elements ← list_tree ms at vs
  fit ← fitted elements (list_of (par u))
  row_node at (array_call (length u.dims)) (sets ++ fit ∷ [])

-- ---- all values

-- a value for a declaration of this type, before it is coerced
unfoldable pub value_tree : Meanings → Span → PlainType → Value → Test Tree
value_tree ms at u (pure.array vs) = list_tree ms at vs
value_tree ms at u (pure.rows ls) = rows_tree ms at ls
value_tree ms at u (pure.array_nd ss vs) = shaped_tree ms at u ss vs
value_tree ms at u v = plain_tree ms at v

-- what its type is to be below: a list and rows take no index types here, since an array takes its declared index sets in evaluation
unfoldable pub wanted : PlainType → Value → PlainType
wanted u (pure.array vs) = if is_scalar u then u else list_of u
wanted u (pure.rows ls) = if nat_eq (length u.dims) 2 then table_of u else u
wanted u v = u

-- an integer
abbrev pub integer : Value → Option ℤ
integer (pure.int n) = Some n
integer v = None

abbrev pub descends : Option ℤ → Option ℤ → Bool
descends (Some m) (Some n) = int_lt n m
descends (Some m) None = false
descends None o = false

-- a range of integers without a member
abbrev pub is_empty_range : Value → Bool
is_empty_range (pure.range v w) = descends (integer v) (integer w)
is_empty_range v = false

-- these index sets and elements: such a range alone, and none
abbrev pub are_nothing : Values → Values → Bool
are_nothing (pure.a_value v pure.no_values) pure.no_values = is_empty_range v
are_nothing ss vs = false

-- `array1d(1..0, [])`
abbrev pub is_empty_list : Value → Bool
is_empty_list (pure.array_nd ss vs) = are_nothing ss vs
is_empty_list v = false

-- the declared type, for this value: one that fits each index takes no index type
abbrev pub type_for : PlainType → Value → PlainType
type_for u v = if is_empty_list v && nat_eq (length u.dims) 1 then list_of u else u

-- coerced to a type
abbrev pub fitted_value : Meanings → Span → PlainType → Value → Test Tree
fitted_value ms at u v = value_tree ms at u v >>= λ e. fitted e (wanted u v)

-- whatever stops it
abbrev pub as_data_form : {A : Type 0} → Span → Test A → Test A
as_data_form at (Ok x) = Ok x
as_data_form at (Err f) = refuse kind.DataForm at

-- an item's value for a declaration of this type, coerced to it
unfoldable pub typed_value : Meanings → PlainType → Given → Test Tree
typed_value ms u g = as_data_form g.at (fitted_value ms g.at (type_for u g.value) g.value)
