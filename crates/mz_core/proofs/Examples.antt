-- Worked examples of the order of types, of joins, of paths of coercions, and of typed trees.
use Rattle.std.proofs.Common.{◌≡◌, Bool, true, false, List, [], ◌∷◌, Option, Some, None, refl}
use Rattle.std.specs.Prelude.{pos}
use Rattle.mz_base.specs.declared.fault.Span.{Span}
use Rattle.mz_core.specs.declared.types.Base.{Base}
use Rattle.mz_core.specs.declared.types.Base.TheVariants as base
use Rattle.mz_core.specs.declared.types.Ix.{Ix}
use Rattle.mz_core.specs.declared.types.Ix.TheVariants as ix
use Rattle.mz_core.specs.declared.types.Coercion.TheVariants.{ToVar, BoolToInt, EnumToInt, SetEnumToSetInt, ToOpt, SetToArray, IndexToInt, BottomToBase, SetBottomToSet}
use Rattle.mz_core.specs.Types.{PlainType}
use Rattle.mz_core.specs.Order.{below, same_type, same_dims, dims_below}
use Rattle.mz_core.specs.Join.{join}
use Rattle.mz_core.specs.Paths.{coercions, index_links}
use Rattle.mz_core.specs.Tree as pure

abbrev of_base : Base → PlainType
of_base b = record { var = false; opt = false; base = b; dims = [] }

abbrev var_of : PlainType → PlainType
var_of t = record t { var = true }

abbrev opt_of : PlainType → PlainType
opt_of t = record t { opt = true }

-- an array of these elements
abbrev array : List Ix → PlainType → PlainType
array ds t = record t { dims = ds }

abbrev list_of : PlainType → PlainType
list_of t = array (ix.Int ∷ []) t

abbrev bool : PlainType
bool = of_base base.Bool

abbrev int : PlainType
int = of_base base.Int

abbrev text : PlainType
text = of_base base.Text

-- of two enums E and F
abbrev case_e : PlainType
case_e = of_base (base.Enum 0)

abbrev case_f : PlainType
case_f = of_base (base.Enum 1)

abbrev set_int : PlainType
set_int = of_base base.SetInt

abbrev set_e : PlainType
set_e = of_base (base.SetEnum 0)

abbrev set_f : PlainType
set_f = of_base (base.SetEnum 1)

-- {}, an element of [], and <>
abbrev empty : PlainType
empty = of_base base.SetBottom

abbrev nothing : PlainType
nothing = of_base base.Bottom

abbrev absent : PlainType
absent = opt_of nothing

abbrev index_e : Ix
index_e = ix.Enum 0

abbrev index_f : Ix
index_f = ix.Enum 1

-- these types are below these, each
abbrev are_below : List (PlainType × PlainType) → List Bool
are_below [] = []
are_below (p ∷ ps) = below p.0 p.1 ∷ are_below ps

-- each step, on a scalar
each_step : are_below ((int, var_of int) ∷ (bool, int) ∷ (case_e, int) ∷ (set_e, set_int) ∷ (int, opt_of int) ∷ (set_int, list_of int) ∷ (set_e, list_of case_e) ∷ (nothing, text) ∷ (empty, set_f) ∷ []) ≡ true ∷ true ∷ true ∷ true ∷ true ∷ true ∷ true ∷ true ∷ true ∷ []
unfolding below same_type same_dims dims_below
each_step = refl

-- none of them goes back
no_step_back : are_below ((var_of int, int) ∷ (int, bool) ∷ (int, case_e) ∷ (set_int, set_e) ∷ (opt_of int, int) ∷ (list_of int, set_int) ∷ (list_of case_e, set_e) ∷ (text, nothing) ∷ (set_f, empty) ∷ []) ≡ false ∷ false ∷ false ∷ false ∷ false ∷ false ∷ false ∷ false ∷ false ∷ []
unfolding below same_type same_dims dims_below
no_step_back = refl

-- several steps; steps of bases hold under opt, and of arrays by their elements
several_steps : are_below ((bool, var_of (opt_of int)) ∷ (opt_of case_e, var_of (opt_of int)) ∷ (absent, opt_of bool) ∷ (set_e, list_of (var_of (opt_of int))) ∷ (empty, list_of case_f) ∷ (nothing, list_of int) ∷ (array (index_e ∷ index_f ∷ []) bool, array (ix.Int ∷ index_f ∷ []) (var_of int)) ∷ (list_of nothing, list_of text) ∷ (list_of set_e, list_of (var_of set_int)) ∷ []) ≡ true ∷ true ∷ true ∷ true ∷ true ∷ true ∷ true ∷ true ∷ true ∷ []
unfolding below same_type same_dims dims_below
several_steps = refl

-- different enums; another number of dimensions; a var set is no array; no set becomes an array of
-- Booleans, and {} none of nothing; an index int is no enum's
apart : are_below ((case_e, case_f) ∷ (set_e, set_f) ∷ (set_e, list_of case_f) ∷ (int, list_of int) ∷ (list_of int, array (ix.Int ∷ ix.Int ∷ []) int) ∷ (var_of set_int, list_of (var_of int)) ∷ (empty, list_of bool) ∷ (nothing, list_of bool) ∷ (empty, list_of nothing) ∷ (list_of int, array (index_e ∷ []) int) ∷ (set_e, array (index_e ∷ []) case_e) ∷ (bool, set_int) ∷ []) ≡ false ∷ false ∷ false ∷ false ∷ false ∷ false ∷ false ∷ false ∷ false ∷ false ∷ false ∷ false ∷ []
unfolding below same_type same_dims dims_below
apart = refl

-- no step leads to an option of a set or of a text, or to a var text; each type is below itself
not_allowed : are_below ((set_int, opt_of set_int) ∷ (nothing, opt_of set_int) ∷ (absent, opt_of empty) ∷ (text, opt_of text) ∷ (text, var_of text) ∷ (nothing, var_of text) ∷ (list_of text, list_of (var_of text)) ∷ (var_of text, var_of text) ∷ []) ≡ false ∷ false ∷ false ∷ false ∷ false ∷ false ∷ false ∷ true ∷ []
unfolding below same_type same_dims dims_below
not_allowed = refl

abbrev joins : List (PlainType × PlainType) → List (Option PlainType)
joins [] = []
joins (p ∷ ps) = join p.0 p.1 ∷ joins ps

joins_of_scalars : joins ((bool, int) ∷ (bool, case_e) ∷ (case_e, case_f) ∷ (case_e, case_e) ∷ (set_e, set_f) ∷ (empty, set_e) ∷ (var_of bool, int) ∷ (var_of case_e, opt_of bool) ∷ (absent, int) ∷ (nothing, text) ∷ []) ≡ Some int ∷ Some int ∷ Some int ∷ Some case_e ∷ Some set_int ∷ Some set_e ∷ Some (var_of int) ∷ Some (var_of (opt_of int)) ∷ Some (opt_of int) ∷ Some text ∷ []
unfolding join below same_type same_dims dims_below
joins_of_scalars = refl

no_joins_of_scalars : joins ((bool, text) ∷ (int, set_int) ∷ (absent, text) ∷ (absent, set_e) ∷ (opt_of int, empty) ∷ (var_of int, text) ∷ []) ≡ None ∷ None ∷ None ∷ None ∷ None ∷ None ∷ []
unfolding join below same_type same_dims dims_below
no_joins_of_scalars = refl

joins_of_arrays : joins ((array (index_e ∷ []) int, array (index_f ∷ []) bool) ∷ (array (index_e ∷ index_f ∷ []) bool, array (index_e ∷ ix.Int ∷ []) case_f) ∷ (list_of nothing, list_of text) ∷ (list_of set_e, list_of (var_of set_f)) ∷ (list_of int, array (ix.Int ∷ ix.Int ∷ []) int) ∷ (list_of int, int) ∷ []) ≡ Some (list_of int) ∷ Some (array (index_e ∷ ix.Int ∷ []) int) ∷ Some (list_of text) ∷ Some (list_of (var_of set_int)) ∷ None ∷ None ∷ []
unfolding join below same_type same_dims dims_below
joins_of_arrays = refl

-- a par set beside an array; Bottom, which is below arrays, isn't neutral; above {} and an array of
-- nothing stand an array of int and one of each enum, and none is the least
joins_of_sets_with_arrays : joins ((set_e, list_of case_e) ∷ (set_e, list_of bool) ∷ (array (index_f ∷ []) (var_of case_e), set_e) ∷ (set_int, list_of case_e) ∷ (nothing, list_of bool) ∷ (empty, list_of case_f) ∷ (empty, list_of bool) ∷ (empty, list_of nothing) ∷ (nothing, list_of nothing) ∷ (set_int, list_of set_int) ∷ (set_int, list_of text) ∷ (var_of set_int, list_of int) ∷ (set_e, array (index_e ∷ index_e ∷ []) case_e) ∷ []) ≡ Some (list_of case_e) ∷ Some (list_of int) ∷ Some (list_of (var_of case_e)) ∷ Some (list_of int) ∷ Some (list_of int) ∷ Some (list_of case_f) ∷ Some (list_of int) ∷ None ∷ None ∷ None ∷ None ∷ None ∷ None ∷ []
unfolding join below same_type same_dims dims_below
joins_of_sets_with_arrays = refl

path_of_none : coercions (list_of int) (list_of int) ≡ []
unfolding coercions same_type same_dims
path_of_none = refl

path_of_three : coercions bool (var_of (opt_of int)) ≡ (BoolToInt, int) ∷ (ToOpt, opt_of int) ∷ (ToVar, var_of (opt_of int)) ∷ []
unfolding coercions index_links same_type same_dims
path_of_three = refl

path_of_a_set : coercions set_e (list_of (var_of int)) ≡ (SetEnumToSetInt, set_int) ∷ (SetToArray, list_of int) ∷ (ToVar, list_of (var_of int)) ∷ []
unfolding coercions index_links same_type same_dims
path_of_a_set = refl

path_of_cases : coercions set_e (list_of case_e) ≡ (SetToArray, list_of case_e) ∷ []
unfolding coercions index_links same_type same_dims
path_of_cases = refl

path_of_the_empty_set : coercions empty (list_of case_f) ≡ (SetBottomToSet, set_f) ∷ (SetToArray, list_of case_f) ∷ []
unfolding coercions index_links same_type same_dims
path_of_the_empty_set = refl

path_of_bottom : coercions nothing (list_of int) ≡ (BottomToBase, set_int) ∷ (SetToArray, list_of int) ∷ []
unfolding coercions index_links same_type same_dims
path_of_bottom = refl

path_of_indices : coercions (array (index_e ∷ ix.Int ∷ index_f ∷ []) case_e) (array (ix.Int ∷ ix.Int ∷ ix.Int ∷ []) int) ≡ (EnumToInt, array (index_e ∷ ix.Int ∷ index_f ∷ []) int) ∷ (IndexToInt, array (ix.Int ∷ ix.Int ∷ index_f ∷ []) int) ∷ (IndexToInt, array (ix.Int ∷ ix.Int ∷ ix.Int ∷ []) int) ∷ []
unfolding coercions index_links same_type same_dims
path_of_indices = refl

-- TREES

abbrev at : Span
at = record { file = 0; line = 1; col = 1; byte = 0 }

abbrev truth : pure.Tree
truth = pure.node at bool (pure.bool true)

abbrev coerced : pure.Tree
coerced = pure.node at (var_of int) (pure.coerce ToVar (pure.node at int (pure.coerce BoolToInt truth)))

-- the coercions of a node, from the innermost on, and what they are round
coercions_of_a_node : pure.root_coercions coerced ≡ (BoolToInt, int) ∷ (ToVar, var_of int) ∷ []
coercions_of_a_node = refl

node_in_coercions : pure.inner_tree coerced ≡ truth
node_in_coercions = refl

-- [i | i in 1..3 where true], whose generator has slot 7
abbrev comprehension : pure.Shape
comprehension = pure.comp false (pure.node at int (pure.slot 7)) (pure.gens (record { slots = 7 ∷ []; set = pure.node at set_int (pure.builtin 13 (pure.trees (pure.node at int (pure.int (pos 1)) ∷ pure.node at int (pure.int (pos 3)) ∷ []))); cond = Some truth } ∷ []))

layer_of_a_comprehension : pure.layer comprehension ≡ pure.comp_form false (pure.node at int (pure.slot 7)) (record { slots = 7 ∷ []; set = pure.node at set_int (pure.builtin 13 (pure.trees (pure.node at int (pure.int (pos 1)) ∷ pure.node at int (pure.int (pos 3)) ∷ []))); cond = Some truth } ∷ [])
layer_of_a_comprehension = refl

layer_of_a_choice : pure.layer (pure.choice (pure.branches ((truth, coerced) ∷ (truth, truth) ∷ [])) (pure.maybe None)) ≡ pure.if_form ((truth, coerced) ∷ (truth, truth) ∷ []) None
layer_of_a_choice = refl
