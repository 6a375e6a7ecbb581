-- Tables, and what their terms tell over integers that may be undefined.
use Rattle.std.specs.Prelude.{ℕ, zero, suc, ◌+◌, ℤ, Bool, true, false, not, ◌&&◌, nat_eq, List, [], ◌∷◌, length, map, take, drop, Option, Some}
use Rattle.std.specs.List.{list_any}
use Rattle.mz_value.specs.Contents.{Content, contents}
use Rattle.mz_value.specs.Contents as values
use Rattle.mz_symbol.specs.Readings.{Reading}
use Rattle.glob_nodes.specs.declared.nodes.Compare.TheVariants.{Equal}
use Rattle.glob_nodes.specs.Says.{num, compares}
use Rattle.glob_graph.specs.declared.tables.Rows.{Rows}

-- a table as an argument
abbrev pub table_value : Rows → Option Content
table_value t = Some (values.array (t.index ∷ t.columns ∷ []) (contents (map values.int t.cells.items)))

-- as many integers as numbers, each the one at its place
abbrev pub is_row : Reading → List ℕ → List ℤ → Bool
is_row r [] [] = true
is_row r [] (c ∷ cs) = false
is_row r (x ∷ xs) [] = false
is_row r (x ∷ xs) (c ∷ cs) = compares Equal (num r x) (Some c) && is_row r xs cs

-- the same of the row that begins at a place
abbrev pub row_at : Reading → List ℕ → List ℤ → ℕ → Bool
row_at r ids cells k = is_row r ids (take (length ids) (drop k cells))

-- where rows of n columns begin, the first of them at k
abbrev pub steps : ℕ → ℕ → ℕ → List ℕ
steps n k zero = []
steps n k (suc m) = k ∷ steps n (k + n) m

abbrev pub is_among : Reading → List ℕ → Rows → Bool
is_among r [] t = not (nat_eq t.count 0)
is_among r (x ∷ xs) t = list_any (λ k. row_at r (x ∷ xs) t.cells.items k) (steps (length (x ∷ xs)) 0 t.count)
