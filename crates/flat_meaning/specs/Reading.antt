-- WHAT A NAME OF THE MODEL HAS FOR A VALUE in a solution of a FlatZinc program, by the name and its type alone. A scalar is read by its name, an option by its two names, an array by its array item, an array of options by two. Nothing is read where no variable of that name is there, where it isn't marked for output, or where it is of another kind.
use Rattle.std.specs.Prelude.{◌≡◌, ℕ, suc, ℤ, pos, List, [], ◌∷◌, map, Bool, true, false, ◌&&◌, Option, Some, None, slice_get, slice_index_or, if◌then◌else◌}
use Rattle.std.specs.Option.{option_map}
use Rattle.std.specs.List.{list_all}
use Rattle.std.specs.Str.{bytes_eq}
use Rattle.mz_value.specs.Ranges.{Range}
use Rattle.mz_value.specs.Contents.{Content, contents}
use Rattle.mz_value.specs.Contents as values
use Rattle.mz_operations.specs.declared.row.Side.TheVariants.{Least}
use Rattle.mz_operations.specs.Sets.{end_of, same_set}
use Rattle.mz_core.specs.declared.types.Base.{Base}
use Rattle.mz_core.specs.Types.{PlainType}
use Rattle.mz_core.specs.Order.{no_dims}
use Rattle.mz_arena.specs.Values as terms
use Rattle.mz_instance.specs.Parts.{Sort, Whole, Truth, Subset, sort_of, truths}
use Rattle.mz_instance.specs.Contents.{is_one, content_by, option_by}
use Rattle.fz_program.specs.Names.{Name}
use Rattle.fz_program.specs.Values.{Value, Values, number, number_in, set_in}
use Rattle.fz_program.specs.declared.program.Domain.{Domain}
use Rattle.fz_program.specs.declared.program.Domain.TheVariants.{Bool as Truths, Ints, SetOf}
use Rattle.fz_program.specs.Flat.{Variable, ArrayItem, Program}
use Rattle.flat_meaning.specs.Front.{occurrence_name, value_name}

-- ---- variables and arrays by their names

abbrev pub is_of_sort : Sort → Domain → Bool
is_of_sort Whole (Ints u) = true
is_of_sort Truth Truths = true
is_of_sort Subset (SetOf u) = true
is_of_sort sort domain = false

-- marked for output, and of this sort
abbrev pub is_shown : Sort → Variable → Bool
is_shown sort v = v.output && is_of_sort sort v.domain

-- the place of the first variable with this name, where it is shown, with k variables before these
abbrev pub shown_from : Sort → Name → ℕ → List Variable → Option ℕ
shown_from sort x k [] = None
shown_from sort x k (v ∷ vs) = if bytes_eq x v.label then (if is_shown sort v then Some k else None) else shown_from sort x (suc k) vs

abbrev pub shown_place : Sort → Program → Name → Option ℕ
shown_place sort p x = shown_from sort x 0 p.vars

-- the first array with this name
abbrev pub item_named : List ArrayItem → Name → Option ArrayItem
item_named [] x = None
item_named (a ∷ more) x = if bytes_eq x a.label then Some a else item_named more x

abbrev pub is_sort_at : Sort → Option Variable → Bool
is_sort_at sort None = false
is_sort_at sort (Some v) = is_of_sort sort v.domain

abbrev pub where_of_sort : Sort → List Variable → Option ArrayItem → Option ArrayItem
where_of_sort sort vs None = None
where_of_sort sort vs (Some a) = if list_all (λ k. is_sort_at sort (slice_get vs k)) a.items then Some a else None

-- the array with this name, where its elements are of this sort
abbrev pub shown_item : Sort → Program → Name → Option ArrayItem
shown_item sort p x = where_of_sort sort p.vars (item_named p.arrays x)

-- ---- where a name's cells are

-- the place of a cell's value, and of an option that of its occurrence
pub record CellPlaces : Type 0 where
  pub occurs : Option ℕ
  pub value : ℕ

-- of a scalar, or of an array with these index ranges
pub data Layout : Type 0 where
  Alone : CellPlaces → Layout
  Rows : List Range → List CellPlaces → Layout

abbrev pub value_alone : ℕ → CellPlaces
value_alone k = record { occurs = None; value = k }

abbrev pub with_occurrence : ℕ → ℕ → CellPlaces
with_occurrence o k = record { occurs = Some o; value = k }

abbrev pub both_places : Option ℕ → Option ℕ → Option Layout
both_places (Some o) (Some k) = Some (Alone (with_occurrence o k))
both_places o k = None

abbrev pub paired : List ℕ → List ℕ → List CellPlaces
paired [] ks = []
paired (o ∷ os) [] = []
paired (o ∷ os) (k ∷ ks) = with_occurrence o k ∷ paired os ks

-- with the same index ranges
abbrev pub both_items : Option ArrayItem → Option ArrayItem → Option Layout
both_items (Some o) (Some a) = if same_set o.index a.index then Some (Rows a.index (paired o.items a.items)) else None
both_items o a = None

-- of a scalar or an array, an option or not
abbrev pub layout_by : Bool → Bool → Sort → Program → Name → Option Layout
layout_by true false sort p x = option_map (λ k. Alone (value_alone k)) (shown_place sort p x)
layout_by true true sort p x = both_places (shown_place Truth p (occurrence_name x)) (shown_place sort p (value_name x))
layout_by false false sort p x = option_map (λ a. Rows a.index (map value_alone a.items)) (shown_item sort p x)
layout_by false true sort p x = both_items (shown_item Truth p (occurrence_name x)) (shown_item sort p (value_name x))

abbrev pub layout : PlainType → Program → Name → Option Layout
layout t p x = layout_by (no_dims t.dims) t.opt (sort_of t.base) p x

-- ---- what is read there

-- the values of the variables by their places
abbrev pub by_place : Values → terms.Values
by_place f = record { number = λ k. number_in (slice_index_or f k (number (pos 0))); set = λ k. set_in (slice_index_or f k (number (pos 0))) }

abbrev pub content_at : Base → terms.Values → Option ℕ → ℕ → Content
content_at b x None k = content_by b (x.number k) (x.set k)
content_at b x (Some o) k = option_by b (x.number o) (x.number k) (x.set k)

abbrev pub cell_value : Base → terms.Values → CellPlaces → Content
cell_value b x c = content_at b x c.occurs c.value

abbrev pub layout_content : Base → terms.Values → Layout → Content
layout_content b x (Alone c) = cell_value b x c
layout_content b x (Rows ix cs) = values.array ix (contents (map (cell_value b x) cs))

-- THE VALUE THAT IS READ OFF for a name of this type
abbrev pub read_content : PlainType → Program → Values → Name → Option Content
read_content t p f x = option_map (layout_content t.base (by_place f)) (layout t p x)

-- ---- absent options

abbrev pub domain_set : Domain → List Range
domain_set Truths = truths
domain_set (Ints u) = u
domain_set (SetOf u) = u

abbrev pub least_at : Option Variable → Option ℤ
least_at None = None
least_at (Some v) = end_of Least (domain_set v.domain)

-- where an option isn't there, its value's variable has the least number of its domain
abbrev pub IsLeast : List Variable → terms.Values → Option ℕ → ℕ → Type 0
IsLeast vs x None k = Unit {0}
IsLeast vs x (Some o) k = is_one (x.number o) ≡ false → least_at (slice_get vs k) ≡ Some (x.number k)

abbrev pub AreLeast : List Variable → terms.Values → List CellPlaces → Type 0
AreLeast vs x [] = Unit {0}
AreLeast vs x (c ∷ cs) = IsLeast vs x c.occurs c.value × AreLeast vs x cs

abbrev pub LeastIn : List Variable → terms.Values → Option Layout → Type 0
LeastIn vs x None = ⊥
LeastIn vs x (Some (Alone c)) = IsLeast vs x c.occurs c.value
LeastIn vs x (Some (Rows ix cs)) = AreLeast vs x cs

-- of a name of this type
abbrev pub HasDefaults : PlainType → Program → Values → Name → Type 0
HasDefaults t p f x = LeastIn p.vars (by_place f) (layout t p x)
