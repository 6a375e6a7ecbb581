-- The least type above two.
use Rattle.std.specs.Prelude.{Bool, true, false, ◌&&◌, ◌||◌, List, [], ◌∷◌, if◌then◌else◌, Option, Some, None, nat_eq, length, map}
use Rattle.std.specs.List.{zip}
use Rattle.std.specs.Option.{option_map, option_or}
use Rattle.mz_core.specs.declared.types.Base.{Base}
use Rattle.mz_core.specs.declared.types.Base.TheVariants as base
use Rattle.mz_core.specs.declared.types.Ix.{Ix}
use Rattle.mz_core.specs.declared.types.Ix.TheVariants as ix
use Rattle.mz_core.specs.Types.{PlainType, is_allowed}
use Rattle.mz_core.specs.Coercions.{Below}
use Rattle.mz_core.specs.Order.{base_below, same_index, is_par_scalar, below}

-- WHAT IT MEANS

-- a type above two that is below every type above both
pub record IsLeast (t u j : PlainType) : Type 0 where
  pub first : Below t j
  pub second : Below u j
  pub least : (v : PlainType) → Below t v → Below u v → Below j v

-- the least type above two, or None where no type is the least
abbrev pub IsJoin : PlainType → PlainType → Option PlainType → Type 0
IsJoin t u None = (j : PlainType) → IsLeast t u j → ⊥
IsJoin t u (Some j) = IsLeast t u j

-- HOW IT IS FOUND

-- the least base above two of which neither is above the other
abbrev pub base_apart : Base → Base → Option Base
base_apart base.Bool (base.Enum f) = Some base.Int
base_apart (base.Enum e) base.Bool = Some base.Int
base_apart (base.Enum e) (base.Enum f) = Some base.Int
base_apart (base.SetEnum e) (base.SetEnum f) = Some base.SetInt
base_apart a b = None

abbrev pub base_join : Base → Base → Option Base
base_join a b = if base_below a b then Some b else (if base_below b a then Some a else base_apart a b)

abbrev pub index_join : Ix → Ix → Ix
index_join x y = if same_index x y then x else ix.Int

abbrev pub indices_join : List Ix → List Ix → List Ix
indices_join xs ys = map (λ p. index_join p.0 p.1) (zip xs ys)

abbrev pub dims_join : List Ix → List Ix → Option (List Ix)
dims_join xs ys = if nat_eq (length xs) (length ys) then Some (indices_join xs ys) else None

abbrev pub if_allowed : PlainType → Option PlainType
if_allowed t = if is_allowed t then Some t else None

-- of two types with as many dimensions, by the join of their bases and of their indices
abbrev pub plain_join : PlainType → PlainType → List Ix → Option Base → Option PlainType
plain_join t u ds None = None
plain_join t u ds (Some b) = if_allowed (record { var = t.var || u.var; opt = t.opt || u.opt; base = b; dims = ds })

-- the base of arrays that is above any set's elements and above a base
abbrev pub number_above : Base → Option Base
number_above base.Bool = Some base.Int
number_above base.Int = Some base.Int
number_above (base.Enum e) = Some (base.Enum e)
number_above b = None

-- the least base of arrays that a set with the first base becomes, and that is above the second
abbrev pub element_join : Base → Base → Option Base
element_join base.SetInt b = base_join base.Int b
element_join (base.SetEnum e) b = base_join (base.Enum e) b
element_join base.SetBottom b = number_above b
element_join base.Bottom b = number_above b
element_join a b = None

abbrev pub one_dim : List Ix → Bool
one_dim (d ∷ []) = true
one_dim ds = false

abbrev pub list_of : PlainType → Base → PlainType
list_of u b = record { var = u.var; opt = u.opt; base = b; dims = ix.Int ∷ [] }

-- of a par set, which becomes an array, and an array
abbrev pub array_join : PlainType → PlainType → Option PlainType
array_join t u = if is_par_scalar t && one_dim u.dims then option_map (list_of u) (element_join t.base u.base) else None

abbrev pub join_apart : PlainType → PlainType → Option (List Ix) → Option PlainType
join_apart t u None = option_or (array_join t u) (array_join u t)
join_apart t u (Some ds) = plain_join t u ds (base_join t.base u.base)

unfoldable pub join : PlainType → PlainType → Option PlainType
join t u = if below t u then Some u else (if below u t then Some t else join_apart t u (dims_join t.dims u.dims))
