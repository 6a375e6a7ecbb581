-- The order of types: the steps that coerce one type to another, and the paths of such steps.
use Rattle.std.specs.Prelude.{◌≡◌, ℕ, true, false, List, [], ◌∷◌, ◌++◌}
use Rattle.mz_core.specs.declared.types.Base.{Base}
use Rattle.mz_core.specs.declared.types.Base.TheVariants as base
use Rattle.mz_core.specs.declared.types.Ix.{Ix}
use Rattle.mz_core.specs.declared.types.Ix.TheVariants as ix
use Rattle.mz_core.specs.declared.types.Coercion.{Coercion}
use Rattle.mz_core.specs.declared.types.Coercion.TheVariants.{ToVar, BoolToInt, EnumToInt, SetEnumToSetInt, ToOpt, SetToArray, IndexToInt, BottomToBase, SetBottomToSet}
use Rattle.mz_core.specs.Types.{PlainType, is_set, is_allowed}

-- a coercion that raises a base to another: bool and enums to int, a set of an enum to a set of int,
-- Bottom to every base, and the set of Bottom to every set
pub data Raises : Coercion → Base → Base → Type 0 where
  bool_to_int : Raises BoolToInt base.Bool base.Int
  enum_to_int : (e : ℕ) → Raises EnumToInt (base.Enum e) base.Int
  set_enum_to_set_int : (e : ℕ) → Raises SetEnumToSetInt (base.SetEnum e) base.SetInt
  bottom_to_base : (b : Base) → Raises BottomToBase base.Bottom b
  set_bottom_to_set : (b : Base) → is_set b ≡ true → Raises SetBottomToSet base.SetBottom b

-- a set's base, and the base of its elements
pub data HasElements : Base → Base → Type 0 where
  integers : HasElements base.SetInt base.Int
  cases : (e : ℕ) → HasElements (base.SetEnum e) (base.Enum e)

-- one step: par to var; a type to its option; a base to a higher one, under any marks and for an array
-- element by element; a par set to the array of its elements; an index of an enum to an index int
pub data Coerces : Coercion → PlainType → PlainType → Type 0 where
  to_var : (t : PlainType) → t.var ≡ false → Coerces ToVar t (record t { var = true })
  to_opt : (t : PlainType) → t.opt ≡ false → Coerces ToOpt t (record t { opt = true })
  to_base : (t : PlainType) (c : Coercion) (b : Base) → Raises c t.base b → Coerces c t (record t { base = b })
  to_array : (t : PlainType) (b : Base) → t.var ≡ false → t.opt ≡ false → t.dims ≡ [] → HasElements t.base b → Coerces SetToArray t (record t { base = b; dims = ix.Int ∷ [] })
  to_int_index : (t : PlainType) (before after : List Ix) (e : ℕ) → t.dims ≡ before ++ (ix.Enum e ∷ after) → Coerces IndexToInt t (record t { dims = before ++ (ix.Int ∷ after) })

-- a coercion, and the type that it leads to
abbrev pub PathLink : Type 0
PathLink = Coercion × PlainType

-- a path of steps from one type to another, none of which leads to a type that isn't allowed
pub data Leads : PlainType → List PathLink → PlainType → Type 0 where
  arrived : (t : PlainType) → Leads t [] t
  goes : {t : PlainType} (c : Coercion) (u : PlainType) {links : List PathLink} {v : PlainType} → Coerces c t u → is_allowed u ≡ true → Leads u links v → Leads t ((c, u) ∷ links) v

-- the order: some path leads from the one to the other
abbrev pub Below : PlainType → PlainType → Type 0
Below t u = (links : List PathLink) × Leads t links u

-- `Below` orders types
pub record IsPartialOrder : Type 0 where
  pub reflexive : (t : PlainType) → Below t t
  pub transitive : (t u v : PlainType) → Below t u → Below u v → Below t v
  pub antisymmetric : (t u : PlainType) → Below t u → Below u t → t ≡ u
