-- The lists by their places.
use Rattle.std.specs.Prelude.{ℕ, List, [], ◌∷◌, ◌++◌, slice_index_or}
use Rattle.mz_arena_blocks.specs.declared.blocks.Row.{Row}

-- the list at a place; the empty list where there is none
abbrev pub list_at : {T : Type 0} → List (List T) → ℕ → List T
list_at lists place = slice_index_or lists place []

-- each row is an element before a list that is there already
unfoldable pub lists_from : {T : Type 0} → List (List T) → List (Row T) → List (List T)
lists_from lists [] = lists
lists_from lists (r ∷ rs) = lists_from (lists ++ (r.head ∷ list_at lists r.tail) ∷ []) rs

-- the empty list comes first
abbrev pub lists_of : {T : Type 0} → List (Row T) → List (List T)
lists_of rows = lists_from ([] ∷ []) rows
