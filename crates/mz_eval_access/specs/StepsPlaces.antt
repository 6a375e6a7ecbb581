-- Mirror of src/placing.rt; private clauses only.
use Rattle.std.specs.Prelude.{ℤ, pos, int_le, nat_abs, ◌-ℤ◌, ℕ, zero, suc, ◌+ℤ◌, List, [], ◌∷◌, ◌++◌, take, drop, if◌then◌else◌}
use Rattle.mz_value.specs.Ranges.{Range}
use Rattle.mz_interval.specs.Ends.{Ends}
use Rattle.mz_index.specs.Places.{count_of, length_of}
use Rattle.mz_operations.specs.Sets.{is_within}

-- how far an index is past another
abbrev pub steps_between : ℤ → ℤ → ℕ
steps_between lo i = if int_le lo i then nat_abs (i -ℤ lo) else 0

-- of this many indices from i on, each with the next c elements: what those within the bounds reach
unfoldable pub swept : {A : Type 0} → (List A → List A) → Ends → ℕ → ℕ → ℤ → List A → List A
swept go e c zero i xs = []
swept go e c (suc n) i xs = (if is_within e i then go xs else []) ++ swept go e c n (i +ℤ pos 1) (drop c xs)

-- of this many indices, each with the next c elements: what all of them reach
unfoldable pub runs : {A : Type 0} → (List A → List A) → ℕ → ℕ → List A → List A
runs go c zero xs = []
runs go c (suc n) xs = go xs ++ runs go c n (drop c xs)

-- the elements that indices of these bounds reach
unfoldable pub reach : {A : Type 0} → List Range → List Ends → List A → List A
reach [] [] xs = take 1 xs
reach [] (e ∷ es) xs = []
reach (r ∷ rs) [] xs = []
reach (r ∷ rs) (e ∷ es) xs = swept (reach rs es) e (count_of rs) (length_of r) r.0 xs

-- the elements that indices of these bounds reach, of which the first has this range and these ends
abbrev pub swept_over : {A : Type 0} → Range → Ends → List Range → List Ends → List A → List A
swept_over r e rs es xs = swept (reach rs es) e (count_of rs) (length_of r) r.0 xs
