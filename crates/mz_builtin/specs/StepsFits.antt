-- Mirror of src/fits.rt; private clauses only.
use Rattle.std.specs.Prelude.{ℕ, Bool, true, false, ◌&&◌, ◌||◌, List, [], ◌∷◌, filter, length, nat_eq, if◌then◌else◌}
use Rattle.std.specs.List.{flat_map}
use Rattle.mz_core.specs.declared.types.Ix.{Ix}
use Rattle.mz_core.specs.declared.types.Ix.TheVariants as ix
use Rattle.mz_core.specs.Types.{PlainType}
use Rattle.mz_core.specs.Order.{below, index_below, no_dims}
use Rattle.mz_builtin.specs.declared.entry.Of.{Of}
use Rattle.mz_builtin.specs.declared.entry.Param.{Param}
use Rattle.mz_builtin.specs.declared.entry.Param.TheVariants as param
use Rattle.mz_builtin.specs.Readings.{Choices, Meaning, Maker, type_of, types_with, joined, index_sets}

-- the index types that are above one
unfoldable pub indices_above : List Ix → Ix → List Ix
indices_above indices d = filter (index_below d) indices

unfoldable pub lists_above : List Ix → List Ix → List (List Ix)
lists_above indices [] = [] ∷ []
lists_above indices (d ∷ ds) = joined (indices_above indices d) (lists_above indices ds)

-- the index lists that an argument with these index types may fit: a scalar may become an array of
-- one dimension
unfoldable pub near_lists : List Ix → List Ix → ℕ → List (List Ix)
near_lists indices dims n =
    if nat_eq n (length dims)
    then lists_above indices dims
    else (if no_dims dims && nat_eq n 1 then lists_above indices (ix.Int ∷ []) else [])

unfoldable pub near_of_rank : Meaning → Bool → Of → List Ix → List Ix → ℕ → List PlainType
near_of_rank m var o indices dims n = types_with m var o (near_lists indices dims n)

unfoldable pub near_arrays : Meaning → Bool → Of → List Ix → List Ix → List ℕ → List PlainType
near_arrays m var o indices dims ranks = flat_map (near_of_rank m var o indices dims) ranks

-- a parameter's types, of which those that no argument with these index types fits may be left out
unfoldable pub near_types : Choices → Meaning → Bool → List Ix → Param → List PlainType
near_types c m var dims (param.One o) = type_of m var o [] ∷ []
near_types c m var dims (param.Par o) = type_of m false o [] ∷ []
near_types c m var dims (param.Array o) = near_arrays m var o c.indices dims c.ranks
near_types c m var dims (param.Sized n o) = near_arrays m var o c.indices dims (n ∷ [])
near_types c m var dims (param.ParSized n o) = near_arrays m false o c.indices dims (n ∷ [])
near_types c m var dims param.IndexSet = index_sets c.enums

-- an element of an array of this type
abbrev pub element : PlainType → PlainType
element a = record a { dims = [] }

-- the argument is no array, or its elements fit
unfoldable pub element_fits : Meaning → Bool → Of → PlainType → Bool
element_fits m var o a = no_dims a.dims || below (element a) (type_of m var o [])

-- no type of the parameter need be made where an array's elements don't fit
unfoldable pub may_fit : Meaning → Bool → PlainType → Param → Bool
may_fit m var a (param.One o) = true
may_fit m var a (param.Par o) = true
may_fit m var a (param.Array o) = element_fits m var o a
may_fit m var a (param.Sized n o) = element_fits m var o a
may_fit m var a (param.ParSized n o) = element_fits m false o a
may_fit m var a param.IndexSet = true

-- a parameter's types that the argument fits
unfoldable pub types_above : Choices → Meaning → Bool → PlainType → Param → List PlainType
types_above c m var a p = if may_fit m var a p then filter (below a) (near_types c m var a.dims p) else []

-- the lists of parameters that accept the arguments
unfoldable pub accepting : Choices → Meaning → Bool → List PlainType → List Param → List (List PlainType)
accepting c m var [] [] = [] ∷ []
accepting c m var [] (p ∷ ps) = []
accepting c m var (a ∷ args) [] = []
accepting c m var (a ∷ args) (p ∷ ps) = joined (types_above c m var a p) (accepting c m var args ps)

unfoldable pub accepting_params : Choices → List PlainType → Maker
accepting_params c args m var ps = accepting c m var args ps
