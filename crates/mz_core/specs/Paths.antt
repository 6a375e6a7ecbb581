-- The coercions that lead from a type to one above it: the base's first, then the indices' from the
-- left, then option and var. A set becomes an array by its elements' base.
use Rattle.std.specs.Prelude.{Bool, List, [], ◌∷◌, ◌++◌, map, Option, Some, None, if◌then◌else◌}
use Rattle.std.specs.Bool.{beq}
use Rattle.mz_core.specs.declared.types.Base.{Base}
use Rattle.mz_core.specs.declared.types.Base.TheVariants as base
use Rattle.mz_core.specs.declared.types.Ix.{Ix}
use Rattle.mz_core.specs.declared.types.Coercion.{Coercion}
use Rattle.mz_core.specs.declared.types.Coercion.TheVariants.{ToVar, BoolToInt, EnumToInt, SetEnumToSetInt, ToOpt, SetToArray, IndexToInt, BottomToBase, SetBottomToSet}
use Rattle.mz_core.specs.declared.types.TypeInst.{TypeInst}
use Rattle.mz_core.specs.Types.{PlainType, plain_type}
use Rattle.mz_core.specs.Coercions.{PathLink}
use Rattle.mz_core.specs.Order.{same_base, same_index, same_type, set_of, becomes_array}

-- what the code's list of coercions stands for
abbrev pub path_link : Coercion × TypeInst → PathLink
path_link l = (l.0, plain_type l.1)

abbrev pub path_links : List (Coercion × TypeInst) → List PathLink
path_links ls = map path_link ls

-- the coercion that raises a base
abbrev pub raising : Base → Coercion
raising base.Bool = BoolToInt
raising (base.Enum e) = EnumToInt
raising (base.SetEnum e) = SetEnumToSetInt
raising base.SetBottom = SetBottomToSet
raising a = BottomToBase

abbrev pub base_links : PlainType → Base → List PathLink
base_links t b = if same_base t.base b then [] else (raising t.base, record t { base = b }) ∷ []

-- the indices that are done, and those that are left, with what they become
unfoldable pub index_links : PlainType → List Ix → List Ix → List Ix → List PathLink
index_links t done [] ys = []
index_links t done (x ∷ xs) [] = []
index_links t done (x ∷ xs) (y ∷ ys) =
    if same_index x y then index_links t (done ++ (x ∷ [])) xs ys
    else (IndexToInt, record t { dims = done ++ (y ∷ xs) }) ∷ index_links t (done ++ (y ∷ [])) xs ys

abbrev pub opt_links : PlainType → Bool → List PathLink
opt_links t o = if beq t.opt o then [] else (ToOpt, record t { opt = o }) ∷ []

abbrev pub var_links : PlainType → Bool → List PathLink
var_links t v = if beq t.var v then [] else (ToVar, record t { var = v }) ∷ []

abbrev pub mark_links : PlainType → PlainType → List PathLink
mark_links t u = opt_links t u.opt ++ var_links (record t { opt = u.opt }) u.var

abbrev pub links_by : PlainType → PlainType → Option Base → List PathLink
links_by t u None =
    base_links t u.base ++ (index_links (record t { base = u.base }) [] t.dims u.dims ++ mark_links (record t { base = u.base; dims = u.dims }) u)
links_by t u (Some s) =
    base_links t s ++ ((SetToArray, record t { base = u.base; dims = u.dims }) ∷ mark_links (record t { base = u.base; dims = u.dims }) u)

unfoldable pub coercions : PlainType → PlainType → List PathLink
coercions t u = if same_type t u then [] else links_by t u (if becomes_array t u then set_of u.base else None)
