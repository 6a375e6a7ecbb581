-- The test of the order of types.
use Rattle.std.specs.Prelude.{Bool, true, false, not, ◌&&◌, ◌||◌, List, [], ◌∷◌, nat_eq, Option, Some, None}
use Rattle.std.specs.Bool.{beq}
use Rattle.mz_core.specs.declared.types.Base.{Base}
use Rattle.mz_core.specs.declared.types.Base.TheVariants as base
use Rattle.mz_core.specs.declared.types.Ix.{Ix}
use Rattle.mz_core.specs.declared.types.Ix.TheVariants as ix
use Rattle.mz_core.specs.Types.{PlainType, is_set, is_allowed}

abbrev pub same_base : Base → Base → Bool
same_base base.Bool base.Bool = true
same_base base.Int base.Int = true
same_base (base.Enum e) (base.Enum f) = nat_eq e f
same_base base.SetInt base.SetInt = true
same_base (base.SetEnum e) (base.SetEnum f) = nat_eq e f
same_base base.SetBottom base.SetBottom = true
same_base base.Text base.Text = true
same_base base.Bottom base.Bottom = true
same_base a b = false

abbrev pub same_index : Ix → Ix → Bool
same_index ix.Int ix.Int = true
same_index (ix.Enum e) (ix.Enum f) = nat_eq e f
same_index a b = false

abbrev pub no_dims : List Ix → Bool
no_dims [] = true
no_dims (d ∷ ds) = false

unfoldable pub same_dims : List Ix → List Ix → Bool
same_dims [] ys = no_dims ys
same_dims (x ∷ xs) [] = false
same_dims (x ∷ xs) (y ∷ ys) = same_index x y && same_dims xs ys

unfoldable pub same_type : PlainType → PlainType → Bool
same_type t u = beq t.var u.var && (beq t.opt u.opt && (same_base t.base u.base && same_dims t.dims u.dims))

-- a step of bases leads from the one to the other
abbrev pub raises : Base → Base → Bool
raises base.Bool base.Int = true
raises (base.Enum e) base.Int = true
raises (base.SetEnum e) base.SetInt = true
raises base.SetBottom b = is_set b
raises base.Bottom b = true
raises a b = false

-- no two steps of bases lead further than one
abbrev pub base_below : Base → Base → Bool
base_below a b = same_base a b || raises a b

abbrev pub index_below : Ix → Ix → Bool
index_below x ix.Int = true
index_below (ix.Enum e) (ix.Enum f) = nat_eq e f
index_below ix.Int (ix.Enum f) = false

unfoldable pub dims_below : List Ix → List Ix → Bool
dims_below [] ys = no_dims ys
dims_below (x ∷ xs) [] = false
dims_below (x ∷ xs) (y ∷ ys) = index_below x y && dims_below xs ys

-- a mark that is set stays set
abbrev pub mark_below : Bool → Bool → Bool
mark_below a b = not a || b

abbrev pub marks_below : PlainType → PlainType → Bool
marks_below t u = mark_below t.var u.var && mark_below t.opt u.opt

-- one dimension, with integers as indices
abbrev pub is_list : List Ix → Bool
is_list (ix.Int ∷ []) = true
is_list ds = false

-- a par scalar that is no option
abbrev pub is_par_scalar : PlainType → Bool
is_par_scalar t = not t.var && (not t.opt && no_dims t.dims)

-- the base of the sets that become arrays of this base
abbrev pub set_of : Base → Option Base
set_of base.Int = Some base.SetInt
set_of (base.Enum e) = Some (base.SetEnum e)
set_of b = None

abbrev pub below_some : Base → Option Base → Bool
below_some a None = false
below_some a (Some b) = base_below a b

-- a par set, or what is below one, becomes an array
abbrev pub becomes_array : PlainType → PlainType → Bool
becomes_array t u = is_par_scalar t && (is_list u.dims && below_some t.base (set_of u.base))

abbrev pub shape_below : PlainType → PlainType → Bool
shape_below t u = (base_below t.base u.base && dims_below t.dims u.dims) || becomes_array t u

-- t is u, or u is allowed and steps lead from t to it
unfoldable pub below : PlainType → PlainType → Bool
below t u = same_type t u || (is_allowed u && (marks_below t u && shape_below t u))
