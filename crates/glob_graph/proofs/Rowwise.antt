-- `table`: its cost, its line, and what its term tells.
use Rattle.std.proofs.Common.{◌≡◌, ◌∙◌, ℕ, zero, suc, ◌+◌, ◌*◌, ◌-◌, ◌<◌, ◌≤◌, ℤ, Bool, true, false, not, ◌&&◌, nat_eq, List, [], ◌∷◌, ◌++◌, length, map, take, drop, zip, Option, Some, refl, sym, ap, arith, append-nil, append_assoc}
use Rattle.std.proofs.lemmas.Bool.Decides.{Decides-eqb}
use Rattle.std.specs.List.{list_all, list_any}
use Rattle.std.specs.Option.{option_and_then}
use Rattle.std.specs.Ordering.{int_eq}
use Rattle.mz_value.specs.Ranges.{Range}
use Rattle.mz_value.specs.Contents.{Content, contents}
use Rattle.mz_value.specs.Contents as values
use Rattle.mz_core.specs.declared.types.Base.TheVariants as base
use Rattle.mz_operations.specs.Arguments.{Arguments, at, index_at, items_at}
use Rattle.mz_operations.specs.Views.{◌>>=◌, as_int, as_index, as_items, items_in}
use Rattle.mz_globals.specs.declared.global.Global.TheVariants as global
use Rattle.mz_globals.specs.Graphs as graphs
use Rattle.mz_globals.specs.Reading.{Grid, each, first_range, length_of, ints_at, grid_at}
use Rattle.mz_globals.specs.Table.{line_of, truth}
use Rattle.mz_arena.specs.Values.{is_true}
use Rattle.mz_symbol.specs.Runs.{Run}
use Rattle.mz_symbol.specs.Readings.{Reading}
use Rattle.mz_symbol.specs.Makes.{GoesOnBy}
use Rattle.glob_nodes.specs.declared.arguments.Numbers.{Numbers}
use Rattle.glob_nodes.specs.declared.nodes.Compare.TheVariants.{Equal}
use Rattle.glob_nodes.specs.Says.{Says, Tells, compares, num}
use Rattle.glob_nodes.specs.Arguments.{array_of, array_value, elements, numbers_in, IsWhole}
use Rattle.glob_nodes.specs.Rows.{IsRow, row_cost}
use Rattle.glob_nodes.proofs.Rows.{found, ints_are, at_first, at_second, one_found, array_found, row_by}
use Rattle.glob_nodes.proofs.Telling.{says_then, tail_is}
use Rattle.glob_nodes.proofs.Seen.{both_same, either_same, head_there, tail_there}
use Rattle.glob_nodes.proofs.Several.{same_two}
use Rattle.glob_graph.specs.declared.tables.Rows.{Rows}
use Rattle.glob_graph.specs.Tables.{table_value, is_row, row_at, steps, is_among}

-- ---- the cost

opened : (n count : ℕ) → (12 * n + 6) * count ≡ 12 * (count * n) + 6 * count
opened n count = grind arith

more_cells : (n count : ℕ) → count ≤ count * suc n
more_cells n count = grind arith

pub rows_cost : (n count cells : ℕ) → 0 < n → count * n ≤ cells → (12 * n + 6) * count ≤ 18 * cells
rows_cost zero count cells low h = absurd (omega (arith, low))
rows_cost (suc n) count cells low h =
    let same = opened (suc n) count in
    let less = more_cells n count in
    omega (arith, same, less, h)

pub table_cost : {A B : Type 0} (xs : List A) (cells : List B) → 18 * length cells + 6 ≤ 56 * row_cost global.Table (length xs ∷ length cells ∷ [])
unfolding line_of
table_cost xs cells = omega arith

-- ---- the line

cells_read : (ns : List ℤ) → each as_int (items_in (contents (map values.int ns))) ≡ Some ns
unfolding as_int
cells_read [] = refl
cells_read (n ∷ ns) = ap (λ q. q >>= λ ys. Some (n ∷ ys)) (cells_read ns)

abbrev pub grid : ℕ → List ℤ → Grid
grid m ns = record { rows = m; cells = ns }

abbrev grid_from : Option Range → Option (List Content) → Option Grid
grid_from i o = i >>= λ r. o >>= λ xs. each as_int xs >>= λ ns. Some (grid (length_of r) ns)

abbrev index_in : Option Content → Option Range
index_in o = option_and_then as_index o >>= first_range

abbrev items_of : Option Content → Option (List Content)
items_of o = option_and_then as_items o

grid_found : (t : Rows) → grid_from (index_in (table_value t)) (items_of (table_value t)) ≡ Some (grid (length_of t.index) t.cells.items)
unfolding as_index as_items
grid_found t = ap (λ q. q >>= λ ns. Some (grid (length_of t.index) ns)) (cells_read t.cells.items)

pub grid_is : (args : Arguments) (k : ℕ) (t : Rows) → at args k ≡ table_value t → grid_at args k ≡ Some (grid (length_of t.index) t.cells.items)
unfolding index_at items_at
grid_is args k t h =
    same_two grid_from (index_in (at args k)) (index_in (table_value t)) (items_of (at args k)) (items_of (table_value t)) (ap index_in h) (ap items_of h)
    ∙ grid_found t

abbrev table_of : Option (List ℤ) → Option Grid → Option Content
table_of o g = truth (o >>= λ ns. g >>= λ t. Some (graphs.is_row ns t))

pub table_line : (x : Range) (o : Option (List ℤ)) (t : Rows) → (line_of global.Table).value (array_of x o ∷ table_value t ∷ []) ≡ Some (values.bool (found (λ ns. graphs.is_row ns (grid (length_of t.index) t.cells.items)) o))
unfolding line_of
table_line x o t =
    same_two table_of (ints_at (array_of x o ∷ table_value t ∷ []) 0) o (grid_at (array_of x o ∷ table_value t ∷ []) 1) (Some (grid (length_of t.index) t.cells.items))
    (ints_are (array_of x o ∷ table_value t ∷ []) 0 x o (at_first (array_of x o) (table_value t ∷ [])))
    (grid_is (array_of x o ∷ table_value t ∷ []) 1 t (at_second (array_of x o) (table_value t) []))
    ∙ one_found (λ ns. graphs.is_row ns (grid (length_of t.index) t.cells.items)) o

-- ---- rows

same_length : (os : List (Option ℤ)) (ns : List ℤ) → os ≡ map (λ n. Some n) ns → length os ≡ length ns
same_length os ns h = ap length h ∙ mapped ns
  where
    mapped : (ns : List ℤ) → length (map (λ n. Some n) ns) ≡ length ns
    mapped [] = refl
    mapped (n ∷ ns) = ap suc (mapped ns)

map_length : (r : Reading) (ids : List ℕ) → length (map (num r) ids) ≡ length ids
map_length r [] = refl
map_length r (x ∷ xs) = ap suc (map_length r xs)

row_told : (r : Reading) (ids : List ℕ) (ns cs : List ℤ) → map (num r) ids ≡ map (λ n. Some n) ns → is_row r ids cs ≡ graphs.same_numbers ns cs
row_told r [] [] [] h = refl
row_told r [] [] (c ∷ cs) h = refl
row_told r [] (n ∷ ns) cs h = absurd (cc)
row_told r (x ∷ xs) [] cs h = absurd (cc)
row_told r (x ∷ xs) (n ∷ ns) [] h = refl
row_told r (x ∷ xs) (n ∷ ns) (c ∷ cs) h =
    both_same (compares Equal (num r x) (Some c)) (is_row r xs cs) (int_eq n c) (graphs.same_numbers ns cs)
    (ap (λ o. compares Equal o (Some c)) (head_there (num r x) (map (num r) xs) n ns h))
    (row_told r xs ns cs (tail_there (num r x) (map (num r) xs) n ns h))

drop_none : (n : ℕ) → ◌≡◌ {A = List ℤ} (drop n []) []
drop_none zero = refl
drop_none (suc n) = refl

drop_more : (k n : ℕ) (cs : List ℤ) → drop (k + n) cs ≡ drop n (drop k cs)
drop_more zero n cs =
    let e : zero + n ≡ n = omega arith in
    ap (λ i. drop i cs) e
drop_more (suc k) n [] = drop_none (suc k + n) ∙ sym (drop_none n)
drop_more (suc k) n (c ∷ cs) =
    let e : suc k + n ≡ suc (k + n) = omega arith in
    ap (λ i. drop i (c ∷ cs)) e ∙ drop_more k n cs

rows_told : (r : Reading) (ids : List ℕ) (ns cells : List ℤ) → map (num r) ids ≡ map (λ n. Some n) ns → (k m : ℕ) → list_any (λ i. row_at r ids cells i) (steps (length ids) k m) ≡ graphs.has_row m ns (drop k cells)
rows_told r ids ns cells h k zero = refl
rows_told r ids ns cells h k (suc m) =
    let long : length ids ≡ length ns = sym (map_length r ids) ∙ same_length (map (num r) ids) ns h in
    either_same (row_at r ids cells k) (list_any (λ i. row_at r ids cells i) (steps (length ids) (k + length ids) m)) (graphs.same_numbers ns (take (length ns) (drop k cells))) (graphs.has_row m ns (drop (length ns) (drop k cells)))
    (ap (λ n. is_row r ids (take n (drop k cells))) long ∙ row_told r ids ns (take (length ns) (drop k cells)) h)
    (rows_told r ids ns cells h (k + length ids) m ∙ ap (graphs.has_row m ns) (ap (λ n. drop (k + n) cells) long ∙ drop_more k (length ns) cells))

table_told : (r : Reading) (ids : List ℕ) (t : Rows) (ns : List ℤ) → map (num r) ids ≡ map (λ n. Some n) ns → is_among r ids t ≡ graphs.is_row ns (grid t.count t.cells.items)
table_told r [] t [] h = refl
table_told r [] t (n ∷ ns) h = absurd (cc)
table_told r (x ∷ xs) t [] h = absurd (cc)
table_told r (x ∷ xs) t (n ∷ ns) h = rows_told r (x ∷ xs) (n ∷ ns) t.cells.items h 0 t.count

pub table_row : (old mid new : Run) (x : Numbers) (t : Rows) (ids : List ℕ) (body id n m : ℕ)
    → ids ≡ x.items.items
    → t.count ≡ length_of t.index
    → IsWhole old x
    → GoesOnBy n old mid
    → Tells old mid (λ r. is_among r ids t) body
    → GoesOnBy m mid new
    → Says mid new (λ r. is_true (r.term x.defined) && is_true (r.term body)) id
    → IsRow base.Bool old new global.Table (λ r. array_value r x ∷ table_value t ∷ []) id
table_row old mid new x t ids body id n m same count whole before told goes s =
    row_by old new global.Table (λ r. array_value r x ∷ table_value t ∷ []) (λ r. is_true (r.term x.defined) && is_among r ids t) id
    (λ r q. ap (λ p. Some (values.bool p)) (array_found (is_true (r.term x.defined)) (elements r x) (is_among r ids t) (λ ns. graphs.is_row ns (grid (length_of t.index) t.cells.items)) (whole r (before.back r (goes.back r q)))
    (λ ns h. table_told r ids t ns (ap (map (num r)) same ∙ h) ∙ ap (λ k. graphs.is_row ns (grid k t.cells.items)) count))
    ∙ sym (table_line (x.first, x.last) (numbers_in r x) t))
    (says_then old mid new (λ r. is_among r ids t) _ (λ r p. is_true (r.term x.defined) && p) body id m told goes s (λ r. refl))

-- ---- the code's steps

pub is_none : (n : ℕ) → nat_eq n 0 ≡ true → n ≡ 0
is_none n h = (Decides-eqb n 0).0 h

pub is_some_length : (n : ℕ) → nat_eq n 0 ≡ false → 0 < n
is_some_length zero h = absurd (cc)
is_some_length (suc n) h = omega arith

pub among_none : (r : Reading) (ids : List ℕ) (t : Rows) → length ids ≡ 0 → not (nat_eq t.count 0) ≡ is_among r ids t
among_none r [] t h = refl
among_none r (x ∷ xs) t h = absurd (omega (arith, h))

pub among_rows : (r : Reading) (ids : List ℕ) (t : Rows) → 0 < length ids → list_any (λ k. row_at r ids t.cells.items k) (steps (length ids) 0 t.count) ≡ is_among r ids t
among_rows r [] t h = absurd (omega (arith, h))
among_rows r (x ∷ xs) t h = refl

pub as_long : (r : Reading) (ids : List ℕ) (cs : List ℤ) → length ids ≡ length cs → list_all (λ x. compares Equal (num r x.0) (Some x.1)) (zip ids cs) ≡ is_row r ids cs
as_long r [] [] h = refl
as_long r [] (c ∷ cs) h = absurd (omega (arith, h))
as_long r (x ∷ xs) [] h = absurd (omega (arith, h))
as_long r (x ∷ xs) (c ∷ cs) h = ap (λ b. compares Equal (num r x) (Some c) && b) (as_long r xs cs (omega (arith, h)))

and_false : (b : Bool) → false ≡ (b && false)
and_false true = refl
and_false false = refl

pub otherwise_long : (r : Reading) (ids : List ℕ) (cs : List ℤ) → (length ids ≡ length cs → ⊥) → false ≡ is_row r ids cs
otherwise_long r [] [] h = absurd (h refl)
otherwise_long r [] (c ∷ cs) h = refl
otherwise_long r (x ∷ xs) [] h = refl
otherwise_long r (x ∷ xs) (c ∷ cs) h = and_false (compares Equal (num r x) (Some c)) ∙ ap (λ b. compares Equal (num r x) (Some c) && b) (otherwise_long r xs cs (λ e. h (ap suc e)))

pub steps_length : (n k m : ℕ) → length (steps n k m) ≡ m
steps_length n k zero = refl
steps_length n k (suc m) = ap suc (steps_length n (k + n) m)

pub steps_begin : (places whole : List ℕ) (n k : ℕ) → places ≡ [] → places ++ steps n 0 k ≡ steps n 0 k
steps_begin places whole n k h = ap (λ ps. ps ++ steps n 0 k) h

pub steps_go : (places more whole : List ℕ) (n here next left fewer : ℕ) → more ≡ places ++ here ∷ [] → next ≡ here + n → suc fewer ≡ left → places ++ steps n here left ≡ whole → more ++ steps n next fewer ≡ whole
steps_go places more whole n here next left fewer b e f w =
    ap (λ ps. ps ++ steps n next fewer) b
    ∙ append_assoc places (here ∷ []) (steps n next fewer)
    ∙ ap (λ k. places ++ here ∷ steps n k fewer) e
    ∙ ap (λ m. places ++ steps n here m) f
    ∙ w

pub steps_end : (places whole : List ℕ) (n here left : ℕ) → left ≡ 0 → places ++ steps n here left ≡ whole → places ≡ whole
steps_end places whole n here left h w = sym (append-nil places) ∙ sym (ap (λ m. places ++ steps n here m) h) ∙ w

-- ---- parts of the cells

pub rest_none : (at : ℕ) (cs : List ℤ) → length cs ≤ at → take (length cs - length cs) (drop (length cs) cs) ≡ drop at cs
rest_none at cs h = tail_is (length cs) cs ∙ dropped (length cs) cs (omega arith) ∙ sym (dropped at cs h)
  where
    dropped : (k : ℕ) (xs : List ℤ) → length xs ≤ k → drop k xs ≡ []
    dropped zero [] h = refl
    dropped (suc k) [] h = refl
    dropped zero (x ∷ xs) h = absurd (omega (arith, h))
    dropped (suc k) (x ∷ xs) h = dropped k xs (omega (arith, h))

pub first_all : (n : ℕ) (cs : List ℤ) → length cs ≤ n → cs ≡ take n cs
first_all zero [] h = refl
first_all (suc n) [] h = refl
first_all zero (c ∷ cs) h = absurd (omega (arith, h))
first_all (suc n) (c ∷ cs) h = ap (λ xs. c ∷ xs) (first_all n cs (omega (arith, h)))
