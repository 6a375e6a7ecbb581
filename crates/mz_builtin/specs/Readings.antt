-- The readings of an entry for given argument types, and the signature that each gives.
use Rattle.std.specs.Prelude.{ℕ, zero, suc, Bool, true, false, List, [], ◌∷◌, ◌++◌, map, length, nat_eq, if◌then◌else◌, Option, Some, None, slice_get}
use Rattle.std.specs.List.{flat_map, list_any}
use Rattle.mz_core.specs.declared.types.Base.{Base}
use Rattle.mz_core.specs.declared.types.Base.TheVariants as base
use Rattle.mz_core.specs.declared.types.Ix.{Ix}
use Rattle.mz_core.specs.declared.types.Ix.TheVariants as ix
use Rattle.mz_core.specs.Types.{PlainType, PlainSignature}
use Rattle.mz_core.specs.Order.{no_dims}
use Rattle.mz_builtin.specs.declared.entry.Letter.{Letter}
use Rattle.mz_builtin.specs.declared.entry.Letter.TheVariants as letter
use Rattle.mz_builtin.specs.declared.entry.Mark.{Mark}
use Rattle.mz_builtin.specs.declared.entry.Mark.TheVariants as mark
use Rattle.mz_builtin.specs.declared.entry.Of.{Of}
use Rattle.mz_builtin.specs.declared.entry.Of.TheVariants as of
use Rattle.mz_builtin.specs.declared.entry.Param.{Param}
use Rattle.mz_builtin.specs.declared.entry.Param.TheVariants as param
use Rattle.mz_builtin.specs.declared.entry.Outcome.{Outcome}
use Rattle.mz_builtin.specs.declared.entry.Outcome.TheVariants as gives
use Rattle.mz_builtin.specs.Entries.{PlainEntry}

-- WHAT OCCURS IN THE ARGUMENTS

-- the number joins those that are there, if it isn't among them
unfoldable pub with_number : List ℕ → ℕ → List ℕ
with_number all n = if list_any (λ m. nat_eq m n) all then all else all ++ (n ∷ [])

unfoldable pub with_base : List ℕ → Base → List ℕ
with_base all (base.Enum e) = with_number all e
with_base all (base.SetEnum e) = with_number all e
with_base all b = all

-- the enums among these index types
unfoldable pub with_indices : List ℕ → List Ix → List ℕ
with_indices all [] = all
with_indices all (ix.Enum e ∷ is) = with_indices (with_number all e) is
with_indices all (ix.Int ∷ is) = with_indices all is

-- the enums that occur in the types, as bases or as index types, each once
unfoldable pub enums_from : List ℕ → List PlainType → List ℕ
enums_from all [] = all
enums_from all (t ∷ ts) = enums_from (with_indices (with_base all t.base) t.dims) ts

-- the enums that occur as index types, each once
unfoldable pub index_enums_from : List ℕ → List PlainType → List ℕ
index_enums_from all [] = all
index_enums_from all (t ∷ ts) = index_enums_from (with_indices all t.dims) ts

unfoldable pub with_rank : List ℕ → List Ix → List ℕ
with_rank all is = if no_dims is then all else with_number all (length is)

-- the numbers of dimensions that occur, each once
unfoldable pub ranks_from : List ℕ → List PlainType → List ℕ
ranks_from all [] = all
ranks_from all (t ∷ ts) = ranks_from (with_rank all t.dims) ts

-- what readings may use beside bool and int: the enums; the index types, int the last; and the
-- numbers of dimensions, 1 the first
pub record Choices : Type 0 where
  pub enums : List ℕ
  pub indices : List Ix
  pub ranks : List ℕ

unfoldable pub choices : List PlainType → Choices
choices args = record {
  enums = enums_from [] args;
  indices = map ix.Enum (index_enums_from [] args) ++ (ix.Int ∷ []);
  ranks = ranks_from (1 ∷ []) args;
}

-- WHAT A LETTER STANDS FOR

-- the mark `opt` and the base that a reading gives to the letter
abbrev pub Meaning : Type 0
Meaning = Bool × Base

unfoldable pub cases : Bool → List ℕ → List Meaning
cases opt [] = []
cases opt (e ∷ es) = (opt, base.Enum e) ∷ cases opt es

unfoldable pub sets_of_cases : List ℕ → List Meaning
sets_of_cases [] = []
sets_of_cases (e ∷ es) = (false, base.SetEnum e) ∷ sets_of_cases es

-- bool, the enums and int: each after those that are below it
unfoldable pub scalars : Bool → List ℕ → List Meaning
scalars opt es = ((opt, base.Bool) ∷ cases opt es) ++ ((opt, base.Int) ∷ [])

unfoldable pub sets : List ℕ → List Meaning
sets es = sets_of_cases es ++ ((false, base.SetInt) ∷ [])

unfoldable pub meanings : List ℕ → Letter → List Meaning
meanings es letter.None = (false, base.Int) ∷ []
meanings es letter.Case = cases false es
meanings es letter.Number = cases false es ++ ((false, base.Int) ∷ [])
meanings es letter.Scalar = scalars false es
meanings es letter.Value = scalars false es ++ sets es
meanings es letter.Any = (scalars false es ++ sets es) ++ scalars true es

-- par, and with var arguments too where the entry takes them
unfoldable pub readings_of : Mark → List Bool
readings_of mark.Par = false ∷ []
readings_of mark.Var = false ∷ (true ∷ [])
readings_of mark.ParResult = false ∷ (true ∷ [])

unfoldable pub result_var : Mark → Bool → Bool
result_var mark.Par var = false
result_var mark.Var var = var
result_var mark.ParResult var = false

-- TYPES

abbrev pub set_with : Base → Base
set_with (base.Enum e) = base.SetEnum e
set_with b = base.SetInt

unfoldable pub opt_of : Meaning → Of → Bool
opt_of m of.OptBool = true
opt_of m of.OptInt = true
opt_of m of.OptT = true
opt_of m of.T = m.0
opt_of m o = false

unfoldable pub base_of : Meaning → Of → Base
base_of m of.Bool = base.Bool
base_of m of.Int = base.Int
base_of m of.OptBool = base.Bool
base_of m of.OptInt = base.Int
base_of m of.SetInt = base.SetInt
base_of m of.Text = base.Text
base_of m of.T = m.1
base_of m of.OptT = m.1
base_of m of.SetT = set_with m.1

unfoldable pub type_of : Meaning → Bool → Of → List Ix → PlainType
type_of m var o dims = record { var = var; opt = opt_of m o; base = base_of m o; dims = dims }

-- the lists that begin with one of the first and go on with one of the second
unfoldable pub joined : {A : Type 0} → List A → List (List A) → List (List A)
joined xs tails = flat_map (λ x. map (λ tail. x ∷ tail) tails) xs

-- one of each, in order
unfoldable pub products : {A : Type 0} → List (List A) → List (List A)
products [] = [] ∷ []
products (xs ∷ rest) = joined xs (products rest)

-- the index types of an array of this many dimensions
unfoldable pub index_lists : List Ix → ℕ → List (List Ix)
index_lists indices zero = [] ∷ []
index_lists indices (suc n) = joined indices (index_lists indices n)

-- arrays with these index types
unfoldable pub types_with : Meaning → Bool → Of → List (List Ix) → List PlainType
types_with m var o lists = map (type_of m var o) lists

unfoldable pub types_of_rank : Meaning → Bool → Of → List Ix → ℕ → List PlainType
types_of_rank m var o indices n = types_with m var o (index_lists indices n)

unfoldable pub array_types : Meaning → Bool → Of → List Ix → List ℕ → List PlainType
array_types m var o indices ranks = flat_map (types_of_rank m var o indices) ranks

abbrev pub set_type : Base → PlainType
set_type b = record { var = false; opt = false; base = b; dims = [] }

-- the sets that may be an index set: those of the enums, and then that of the integers
unfoldable pub index_sets : List ℕ → List PlainType
index_sets [] = set_type base.SetInt ∷ []
index_sets (e ∷ es) = set_type (base.SetEnum e) ∷ index_sets es

-- the types that a parameter has in the readings with this meaning of the letter
unfoldable pub param_types : Choices → Meaning → Bool → Param → List PlainType
param_types c m var (param.One o) = type_of m var o [] ∷ []
param_types c m var (param.Par o) = type_of m false o [] ∷ []
param_types c m var (param.Array o) = array_types m var o c.indices c.ranks
param_types c m var (param.Sized n o) = array_types m var o c.indices (n ∷ [])
param_types c m var (param.ParSized n o) = array_types m false o c.indices (n ∷ [])
param_types c m var param.IndexSet = index_sets c.enums

-- the index types that these index sets give: those of the scalars
abbrev pub index_with : Base → Ix
index_with (base.SetEnum e) = ix.Enum e
index_with b = ix.Int

unfoldable pub given_indices : List PlainType → List Ix
given_indices [] = []
given_indices (t ∷ ts) = if no_dims t.dims then index_with t.base ∷ given_indices ts else given_indices ts

-- the index types of the arrays among them
unfoldable pub array_indices : List PlainType → List Ix
array_indices [] = []
array_indices (t ∷ ts) = t.dims ++ array_indices ts

abbrev pub index_set_base : Option Ix → Base
index_set_base (Some (ix.Enum e)) = base.SetEnum e
index_set_base (Some ix.Int) = base.SetInt
index_set_base None = base.SetInt

unfoldable pub result_type : Meaning → Bool → Outcome → List PlainType → PlainType
result_type m var (gives.One o) params = type_of m var o []
result_type m var (gives.List o) params = type_of m var o (ix.Int ∷ [])
result_type m var (gives.Shaped o) params = type_of m var o (given_indices params)
result_type m var (gives.Alike o) params = type_of m var o (array_indices params)
result_type m var (gives.IndexSet k) params = set_type (index_set_base (slice_get (array_indices params) k))

-- SIGNATURES

-- an entry's number, and the signature of one reading of it
abbrev pub Numbered : Type 0
Numbered = ℕ × PlainSignature

unfoldable pub numbered : PlainEntry → Meaning → Bool → List PlainType → Numbered
numbered e m var params = (e.number, record { params = params; result = result_type m (result_var e.line.mark var) e.line.result params })

-- what gives the lists of types that an entry's parameters take
abbrev pub Maker : Type 0
Maker = Meaning → Bool → List Param → List (List PlainType)

unfoldable pub all_params : Choices → Maker
all_params c m var ps = products (map (param_types c m var) ps)

unfoldable pub with_mark : Maker → PlainEntry → Meaning → Bool → List Numbered
with_mark make e m var = map (numbered e m var) (make m var e.line.params)

unfoldable pub with_meaning : Maker → PlainEntry → Meaning → List Numbered
with_meaning make e m = flat_map (with_mark make e m) (readings_of e.line.mark)

unfoldable pub of_entry : Maker → List ℕ → PlainEntry → List Numbered
of_entry make enums e = flat_map (with_meaning make e) (meanings enums e.line.letter)
