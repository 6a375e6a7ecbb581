-- The signatures of a name, and those of them that accept.
use Rattle.std.specs.Prelude.{ℕ, ◌-◌, Bool, List, [], ◌∷◌, ◌||◌, nat_eq, nat_lt, length, if◌then◌else◌, Option, Some, None, filter}
use Rattle.std.specs.List.{flat_map, list_any}
use Rattle.std.specs.Cmp.Lexicographic.{pointwise}
use Rattle.mz_core.specs.Types.{PlainType}
use Rattle.mz_overload.specs.Best.{accepts}
use Rattle.mz_builtin.specs.Entries.{PlainLine, PlainEntry}
use Rattle.mz_builtin.specs.Table.{built_ins, globals, placed_from, table}
use Rattle.mz_builtin.specs.Readings.{Maker, choices, all_params, Numbered, of_entry}

unfoldable pub has_name : List ℕ → PlainLine → Bool
has_name name l = pointwise nat_eq l.name name

unfoldable pub of_named : Maker → List ℕ → List ℕ → PlainEntry → List Numbered
of_named make enums name e = if has_name name e.line then of_entry make enums e else []

-- each entry of the name, once for each reading
unfoldable pub made : Maker → List ℕ → List ℕ → List Numbered
made make enums name = flat_map (of_named make enums name) table

unfoldable pub signatures : List ℕ → List PlainType → List Numbered
signatures name args = made (all_params (choices args)) (choices args).enums name

abbrev pub accepts_all : List PlainType → Numbered → Bool
accepts_all args n = accepts args n.1

-- those that accept the arguments, in the same order
unfoldable pub fitting : List ℕ → List PlainType → List Numbered
fitting name args = filter (accepts_all args) (signatures name args)

-- some line has the name
unfoldable pub is_known : List ℕ → Bool
is_known name = list_any (has_name name) built_ins || list_any (has_name name) globals

-- the place of a global among the globals; None for an operator or built-in
unfoldable pub global_place : ℕ → Option ℕ
global_place number = if nat_lt number (length built_ins) then None else Some (number - length built_ins)

-- the number of the first operator or built-in of a name, among these entries
unfoldable pub first_named : List ℕ → List PlainEntry → Option ℕ
first_named name [] = None
first_named name (e ∷ es) = if has_name name e.line then Some e.number else first_named name es

abbrev pub number_of : List ℕ → Option ℕ
number_of name = first_named name (placed_from 0 built_ins)
