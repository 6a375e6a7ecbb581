-- The arguments of a row: what each is, where it is there, defined, and of a kind.
use Rattle.std.specs.Prelude.{ℕ, ℤ, List, map, Bool, Option, None, slice_index_or}
use Rattle.std.specs.Option.{option_and_then, option_map}
use Rattle.mz_value.specs.declared.value.Value.{Value}
use Rattle.mz_value.specs.Ranges.{Range}
use Rattle.mz_value.specs.Contents.{Content, content}
use Rattle.mz_operations.specs.Views.{◌>>=◌, as_bool, as_int, as_case, as_set, as_text, as_items, as_index, as_row, as_ordinal, as_element, as_pair, as_option, enum_of}

-- None is an undefined argument
abbrev pub Arguments : Type 0
Arguments = List (Option Content)

-- what the code's arguments stand for
abbrev pub arguments : List (Option Value) → Arguments
arguments vs = map (option_map content) vs

-- the argument at a place, from 0
unfoldable pub at : Arguments → ℕ → Option Content
at args k = slice_index_or args k None

unfoldable pub bool_at : Arguments → ℕ → Option Bool
bool_at args k = option_and_then as_bool (at args k)

unfoldable pub int_at : Arguments → ℕ → Option ℤ
int_at args k = option_and_then as_int (at args k)

unfoldable pub case_at : Arguments → ℕ → Option (ℕ × ℤ)
case_at args k = option_and_then as_case (at args k)

unfoldable pub ordinal_at : Arguments → ℕ → Option ℤ
ordinal_at args k = option_and_then as_ordinal (at args k)

unfoldable pub element_at : Arguments → ℕ → Option ℤ
element_at args k = option_and_then as_element (at args k)

unfoldable pub option_at : Arguments → ℕ → Option Content
option_at args k = option_and_then as_option (at args k)

unfoldable pub set_at : Arguments → ℕ → Option (List Range)
set_at args k = option_and_then as_set (at args k)

unfoldable pub enum_at : Arguments → ℕ → Option ℕ
enum_at args k = option_and_then enum_of (at args k)

unfoldable pub text_at : Arguments → ℕ → Option (List ℕ)
text_at args k = option_and_then as_text (at args k)

unfoldable pub items_at : Arguments → ℕ → Option (List Content)
items_at args k = option_and_then as_items (at args k)

unfoldable pub row_at : Arguments → ℕ → Option (List Content)
row_at args k = option_and_then as_row (at args k)

unfoldable pub index_at : Arguments → ℕ → Option (List Range)
index_at args k = option_and_then as_index (at args k)

-- the first two arguments: two truth values, two integers, or two cases of one enum
unfoldable pub pair : Arguments → Option (ℤ × ℤ)
pair args = do
  x ← at args 0
  y ← at args 1
  as_pair x y
