-- What the globals of tables, automata and graphs say of numbers.
use Rattle.std.specs.Prelude.{ℕ, zero, suc, ℤ, pos, negsuc, ◌+ℤ◌, ◌-ℤ◌, ◌*ℤ◌, int_le, nat_eq, List, [], ◌∷◌, length, take, drop, slice_get, Bool, true, false, not, ◌&&◌, ◌||◌, Option, Some, None, unwrap_or, if◌then◌else◌}
use Rattle.std.specs.List.{list_all}
use Rattle.std.specs.Ordering.{int_eq}
use Rattle.std.specs.Cmp.Lexicographic.{pointwise}
use Rattle.mz_value.specs.Ranges.{Range}
use Rattle.mz_operations.specs.Views.{◌>>=◌}
use Rattle.mz_operations.specs.Numbers.{same}
use Rattle.mz_operations.specs.Sets.{contains}
use Rattle.mz_globals.specs.Lists.{numbered}
use Rattle.mz_globals.specs.Order.{all_different, is_number_of}
use Rattle.mz_globals.specs.Reading.{Placed, Grid, is_index}

-- the element at a place, counted from 0
abbrev pub nth : ℤ → List ℤ → Option ℤ
nth (pos k) xs = slice_get xs k
nth (negsuc k) xs = None

-- the element at an index
abbrev pub element_at : Placed ℤ → ℤ → Option ℤ
element_at x i = nth (i -ℤ x.indices.0) x.items

abbrev pub is_element : ℤ → Placed ℤ → ℤ → Bool
is_element i x y = is_number_of (element_at x i) y

-- ---- tables

abbrev pub same_numbers : List ℤ → List ℤ → Bool
same_numbers xs ys = pointwise int_eq xs ys

-- one of the first rows is this list
abbrev pub has_row : ℕ → List ℤ → List ℤ → Bool
has_row zero xs cells = false
has_row (suc n) xs cells = same_numbers xs (take (length xs) cells) || has_row n xs (drop (length xs) cells)

-- rows without columns are all alike, and may be more than can be looked at
abbrev pub is_row : List ℤ → Grid → Bool
is_row [] g = not (nat_eq g.rows 0)
is_row (x ∷ xs) g = has_row g.rows (x ∷ xs) g.cells

-- ---- automata: the states 1..states, the letters 1..letters, the steps with a row for each state and a column for each letter

pub record Automaton : Type 0 where
  pub states : ℤ
  pub letters : ℤ
  pub steps : List ℤ
  pub final : List Range

abbrev pub is_up_to : ℤ → ℤ → Bool
is_up_to most n = int_le (pos 1) n && int_le n most

-- the state after a letter
abbrev pub next_state : Automaton → ℤ → ℤ → ℤ
next_state m q x = unwrap_or (nth ((q -ℤ pos 1) *ℤ m.letters +ℤ (x -ℤ pos 1)) m.steps) (pos 0)

-- a state outside 1..states fails, 0 too
abbrev pub accepts : Automaton → ℤ → List ℤ → Bool
accepts m q [] = is_up_to m.states q && contains m.final q
accepts m q (x ∷ xs) = (is_up_to m.states q && is_up_to m.letters x) && accepts m (next_state m q x) xs

-- ---- permutations

-- an element of each array with its index: the one leads to the other exactly where the other leads back
abbrev pub is_two_way : ℤ × ℤ → ℤ × ℤ → Bool
is_two_way p q = same (int_eq p.1 q.0) (int_eq q.1 p.0)

abbrev pub are_inverse : Placed ℤ → Placed ℤ → Bool
are_inverse f g =
    list_all (is_index g.indices) f.items
    && list_all (is_index f.indices) g.items
    && list_all (λ p. list_all (is_two_way p) (numbered g.indices.0 g.items)) (numbered f.indices.0 f.items)

-- the indices from i on that so many steps leave, and the one where they end; none where a step leads outside
abbrev pub walk : Placed ℤ → ℕ → ℤ → Option (List ℤ × ℤ)
walk x zero i = Some ([], i)
walk x (suc n) i = element_at x i >>= λ j. walk x n j >>= λ w. Some (i ∷ w.0, w.1)

abbrev pub is_round : ℤ → Option (List ℤ × ℤ) → Bool
is_round first None = false
is_round first (Some w) = all_different w.0 && int_eq w.1 first

-- as many steps as there are indices leave each once and end at the first
abbrev pub is_circuit : Placed ℤ → Bool
is_circuit x = is_round x.indices.0 (walk x (length x.items) x.indices.0)
