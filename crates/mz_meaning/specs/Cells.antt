-- Cells: what an evaluation gives for an expression, a value with its bounds.
use Rattle.std.specs.Prelude.{ℕ, Bool, true, false, not, ◌&&◌, List, [], ◌∷◌, length, Option, Some, None, nat_eq, if◌then◌else◌}
use Rattle.std.specs.Option.{option_map, option_and_then}
use Rattle.mz_value.specs.Ranges.{Range}
use Rattle.mz_value.specs.Contents.{Content}
use Rattle.mz_value.specs.Contents as values
use Rattle.mz_core.specs.declared.types.Base.{Base}
use Rattle.mz_core.specs.declared.types.Base.TheVariants as base
use Rattle.mz_core.specs.Types.{PlainType, is_set}
use Rattle.mz_core.specs.Order.{no_dims}
use Rattle.mz_operations.specs.Views.{as_set, as_items, as_index}
use Rattle.mz_operations.specs.Bounds.{Bound, Bounds, nothing, truth, no_array, bounds_of}
use Rattle.mz_operations.specs.Bounds as bounds

-- A par cell has a value, or None where it is undefined; its bounds are its value's. A var cell has bounds, which of an array are its index ranges and the bounds of its elements, and a value or None. An undefined par array that has become var has no shape: it keeps its number of dimensions alone
pub data Cell : Type 0 where
  Par : Option Content → Cell
  Var : Bounds → Option Content → Cell
  Unshaped : ℕ → Cell

-- How a run gets the values of var cells. In a given run they are there, and the k-th choice is the function's. In a blank run they are all None; that flag tells whether choices and weight are noted
pub data Mode : Type 0 where
  Blank : Bool → Mode
  Given : (ℕ → Content) → Mode

-- the run that the evaluator makes: no values of var cells, and no notes
abbrev pub Bare : Mode
Bare = Blank false

-- the value that a var cell keeps
abbrev pub held : Mode → Option Content → Option Content
held (Blank n) v = None
held (Given f) v = v

-- ---- reading

abbrev pub undefined : Cell
undefined = Par None

abbrev pub par_value : Content → Cell
par_value x = Par (Some x)

abbrev pub value_of : Cell → Option Content
value_of (Par v) = v
value_of (Var b v) = v
value_of (Unshaped d) = None

-- the value of a par cell, and none of a var one
abbrev pub par_value_of : Cell → Option Content
par_value_of (Par v) = v
par_value_of (Var b v) = None
par_value_of (Unshaped d) = None

abbrev pub is_there : {A : Type 0} → Option A → Bool
is_there None = false
is_there (Some x) = true

abbrev pub is_par : Cell → Bool
is_par (Par v) = true
is_par (Var b v) = false
is_par (Unshaped d) = false

abbrev pub all_par : List Cell → Bool
all_par [] = true
all_par (c ∷ cs) = is_par c && all_par cs

-- true, and defined
abbrev pub is_true : Option Content → Bool
is_true (Some (values.bool b)) = b
is_true _ = false

-- what decides of a condition: the value of a par cell, and nothing of a var one
pub data Test : Type 0 where
  Settled : Bool → Test
  Open : Test

abbrev pub test_of : Cell → Test
test_of (Par v) = Settled (is_true v)
test_of (Var b v) = Open
test_of (Unshaped d) = Open

-- a par set that is defined
abbrev pub set_in : Cell → Option (List Range)
set_in (Par v) = option_and_then as_set v
set_in (Var b v) = None
set_in (Unshaped d) = None

-- ---- bounds

abbrev pub bounds_in : Cell → Bounds
bounds_in (Par None) = bounds.one (bounds.number nothing)
bounds_in (Par (Some x)) = bounds_of x
bounds_in (Var b v) = b
bounds_in (Unshaped d) = no_array d

-- of an undefined node of a type, or an element of it: 0..0, or no element that a set may have
abbrev pub empty_bound : PlainType → Bound
empty_bound t = if is_set t.base then bounds.sets [] [] else bounds.number nothing

-- the bounds of an undefined node of a type
abbrev pub no_bounds : PlainType → Bounds
no_bounds t = if no_dims t.dims then bounds.one (empty_bound t) else no_array (length t.dims)

-- the bounds of a cell of this type
abbrev pub bounds_as : PlainType → Cell → Bounds
bounds_as t (Par None) = no_bounds t
bounds_as t (Par (Some x)) = bounds_of x
bounds_as t (Var b v) = b
bounds_as t (Unshaped d) = no_array d

-- of what is no array
abbrev pub scalar_bound : Bounds → Bound
scalar_bound (bounds.one b) = b
scalar_bound (bounds.many ix bs) = bounds.number nothing

-- of an array's elements
abbrev pub element_bounds : Bounds → List Bound
element_bounds (bounds.one b) = []
element_bounds (bounds.many ix bs) = bs

abbrev pub shape_in : Bounds → Option (List Range)
shape_in (bounds.one b) = None
shape_in (bounds.many ix bs) = Some ix

abbrev pub size_in : Bounds → Option ℕ
size_in (bounds.one b) = None
size_in (bounds.many ix bs) = Some (length bs)

-- the index ranges of an array; none of an undefined par one, nor where it has become var
abbrev pub index_of : Cell → Option (List Range)
index_of (Par v) = option_and_then as_index v
index_of (Var b v) = shape_in b
index_of (Unshaped d) = None

-- how many elements such an array has
abbrev pub length_of : Cell → Option ℕ
length_of (Par v) = option_map (λ xs. length xs) (option_and_then as_items v)
length_of (Var b v) = size_in b
length_of (Unshaped d) = None

abbrev pub or_zero : Option ℕ → ℕ
or_zero None = 0
or_zero (Some n) = n

-- ---- what a type says of a cell

-- of one Boolean that is no option
abbrev pub is_bool : Base → Bool
is_bool base.Bool = true
is_bool b = false

abbrev pub is_truth : PlainType → Bool
is_truth t = not t.opt && (is_bool t.base && no_dims t.dims)

-- an undefined par cell of a type becomes var
abbrev pub undefined_var : PlainType → Cell
undefined_var t = if no_dims t.dims then Var (no_bounds t) None else Unshaped (length t.dims)

-- a par cell of a type becomes var; this is the coercion too
abbrev pub to_var : Mode → PlainType → Cell → Cell
to_var m t (Par None) = undefined_var t
to_var m t (Par (Some x)) = Var (bounds_of x) (held m (Some x))
to_var m t (Var b v) = Var b v
to_var m t (Unshaped d) = Unshaped d

-- in a typed tree a par node never has a var cell
abbrev pub to_par : Cell → Cell
to_par (Par v) = Par v
to_par (Var b v) = undefined
to_par (Unshaped d) = undefined

-- a par node has a par cell, and a var node a var one
abbrev pub sealed : Mode → Bool → PlainType → Cell → Cell
sealed m true t c = to_var m t c
sealed m false t c = to_par c

-- a var Boolean may be false or true, whatever its parts are
abbrev pub widened : Bool → Cell → Cell
widened false c = c
widened true (Par v) = Par v
widened true (Var b v) = Var (bounds.one (bounds.number truth)) v
widened true (Unshaped d) = Unshaped d

-- A BOOLEAN IS NEVER UNDEFINED: it is false where it would be. This happens at each node of type bool that is no option, and nowhere else
abbrev pub risen : Mode → Bool → Cell → Cell
risen m false c = c
risen m true (Par v) = Par (Some (values.bool (is_true v)))
risen m true (Var b v) = Var b (held m (Some (values.bool (is_true v))))
risen m true (Unshaped d) = Var (bounds.one (bounds.number truth)) (held m (Some (values.bool false)))

-- the cell of a node with this type; a name keeps its own bounds, the bounds of other Booleans are 0..1
abbrev pub typed : Mode → Bool → PlainType → Cell → Cell
typed m is_name t c = risen m (is_truth t) (widened (not is_name && is_truth t) (sealed m t.var t c))

-- ---- whether all that is declared holds

-- `par` where only par cells tell it, `is` where it holds
pub record Sure : Type 0 where
  pub par : Bool
  pub is : Bool

abbrev pub sure : Sure
sure = record { par = true; is = true }

abbrev pub unsure : Sure
unsure = record { par = true; is = false }

abbrev pub both_sure : Sure → Sure → Sure
both_sure a b = record { par = a.par && b.par; is = a.is && b.is }

abbrev pub only_if : {A : Type 0} → Bool → Option A → Option A
only_if true v = v
only_if false v = None

abbrev pub kept_if : Mode → Bool → Cell → Cell
kept_if m b (Par v) = Par (only_if b v)
kept_if m b (Var e v) = Var e (held m (only_if b v))
kept_if m b (Unshaped d) = Unshaped d

abbrev pub guarded_by : Mode → PlainType → Bool → Bool → Cell → Cell
guarded_by m t true b c = kept_if m b c
guarded_by m t false b c = kept_if m b (to_var m t c)

-- a cell of this type, undefined where something doesn't hold
abbrev pub guarded : Mode → PlainType → Sure → Cell → Cell
guarded m t s c = guarded_by m t s.par s.is c

-- a value is there
abbrev pub there : Cell → Sure
there c = record { par = is_par c; is = is_there (value_of c) }

-- ---- names: each slot has a cell

abbrev pub Env : Type 0
Env = ℕ → Cell

abbrev pub no_names : Env
no_names = λ k. undefined

abbrev pub bind : ℕ → Cell → Env → Env
bind slot c env = λ k. if nat_eq k slot then c else env k

-- the last of the same slot counts
abbrev pub bind_all : List ℕ → List Cell → Env → Env
bind_all [] cs env = env
bind_all (s ∷ ss) [] env = env
bind_all (s ∷ ss) (c ∷ cs) env = bind_all ss cs (bind s c env)
