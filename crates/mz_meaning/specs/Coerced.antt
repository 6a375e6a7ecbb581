-- Coercions of values and cells.
use Rattle.std.specs.Prelude.{ℕ, pos, not, List, [], ◌∷◌, map, Option, Some, None}
use Rattle.std.specs.Option.{option_map}
use Rattle.std.specs.Ordering.{int_eq}
use Rattle.mz_value.specs.Ranges.{Range, cardinality}
use Rattle.mz_value.specs.Contents.{Content, contents}
use Rattle.mz_value.specs.Contents as values
use Rattle.mz_value.specs.Shown.{elements}
use Rattle.mz_core.specs.declared.types.Base.{Base}
use Rattle.mz_core.specs.declared.types.Base.TheVariants as base
use Rattle.mz_core.specs.declared.types.Coercion.{Coercion}
use Rattle.mz_core.specs.declared.types.Coercion.TheVariants as coercion
use Rattle.mz_core.specs.Types.{PlainType}
use Rattle.mz_core.specs.Coercions.{PathLink}
use Rattle.mz_operations.specs.Views.{items_in, number_of_bool}
use Rattle.mz_operations.specs.Arrays.{line, element_of}
use Rattle.mz_meaning.specs.Cells.{Cell, Par, Var, Unshaped, Mode, set_in, to_var}

-- a value as one of this base: false and true are 0 and 1, a case is its number, and a set has the enum of its type. A number that a row found by bounds is a truth value or a case where the type says so
abbrev pub recast : Base → Content → Content
recast base.Bool (values.int n) = values.bool (not (int_eq n (pos 0)))
recast base.Int (values.bool b) = values.int (number_of_bool b)
recast base.Int (values.case e k) = values.int k
recast (base.Enum e) (values.int n) = values.case e n
recast base.SetInt (values.set of rs) = values.set None rs
recast (base.SetEnum e) (values.set of rs) = values.set (Some e) rs
recast _ x = x

-- of an array, element by element
abbrev pub recast_all : Base → Content → Content
recast_all b (values.array ix xs) = values.array ix (contents (map (recast b) (items_in xs)))
recast_all b (values.bool p) = recast b (values.bool p)
recast_all b x = recast b x

-- the bounds stay: those of a Boolean are already numbers
abbrev pub recast_cell : Base → Cell → Cell
recast_cell b (Par v) = Par (option_map (recast_all b) v)
recast_cell b (Var e v) = Var e (option_map (recast_all b) v)
recast_cell b (Unshaped d) = Unshaped d

-- the enum of a set's elements
abbrev pub enum_in : Base → Option ℕ
enum_in (base.Enum e) = Some e
enum_in (base.SetEnum e) = Some e
enum_in _ = None

-- the elements of a par set, ascending, as an array
abbrev pub elements_of_set : Base → Option (List Range) → Cell
elements_of_set b None = Par None
elements_of_set b (Some s) = Par (Some (line (map (element_of (enum_in b)) (elements s))))

-- one step of the order of types; its type is the one that it leads to
abbrev pub coerced : Mode → PathLink → Cell → Cell
coerced m (coercion.ToVar, t) c = to_var m t c
coerced m (coercion.BoolToInt, t) c = recast_cell base.Int c
coerced m (coercion.EnumToInt, t) c = recast_cell base.Int c
coerced m (coercion.SetEnumToSetInt, t) c = recast_cell base.SetInt c
coerced m (coercion.SetBottomToSet, t) c = recast_cell t.base c
coerced m (coercion.SetToArray, t) c = elements_of_set t.base (set_in c)
coerced m (coercion.ToOpt, t) c = c
coerced m (coercion.IndexToInt, t) c = c
coerced m (coercion.BottomToBase, t) c = c

abbrev pub set_size : Option (List Range) → ℕ
set_size None = 0
set_size (Some s) = cardinality s

-- A COERCION COSTS NOTHING, but the one from a set to an array, which counts the set's elements; an undefined set has none
abbrev pub coercion_work : Coercion → Cell → ℕ
coercion_work coercion.SetToArray c = set_size (set_in c)
coercion_work _ c = 0

-- the type that coercions lead to
abbrev pub coerced_type : PlainType → List PathLink → PlainType
coerced_type t [] = t
coerced_type t (l ∷ ls) = coerced_type l.1 ls
