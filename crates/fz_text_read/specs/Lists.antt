-- Lists of parts with commas between them, and sets in braces.
use Rattle.std.specs.Prelude.{ℕ, zero, suc, List, [], ◌∷◌, length, Some, None, codes}
use Rattle.mz_value.specs.Ranges.{Range}
use Rattle.fz_items.specs.Items.{◌>>=◌, Read, choose, listed}
use Rattle.fz_text_read.specs.Tokens.{behind, number_at, interval_at}

abbrev pub with_first : {A : Type 0} → A → List A × List ℕ → List A × List ℕ
with_first x r = (x ∷ r.0, r.1)

-- one part or more, up to this many: after a comma comes one
unfoldable pub parts_at : {A : Type 0} → (List ℕ → Read A) → ℕ → List ℕ → Read (List A)
parts_at part zero bs = None
parts_at part (suc most) bs = do
  x ← part bs
  choose (behind (codes ",") x.1) (λ rest. do
    xs ← parts_at part most rest
    Some (with_first x.0 xs)) (Some (x.0 ∷ [], x.1))

-- parts, each of which takes a byte, so no more than there are bytes
abbrev pub all_at : {A : Type 0} → (List ℕ → Read A) → List ℕ → Read (List A)
all_at part bs = parts_at part (length bs) bs

-- parts and the text that closes them
unfoldable pub filled_at : {A : Type 0} → List ℕ → (List ℕ → Read A) → List ℕ → Read (List A)
filled_at close part bs = do
  xs ← all_at part bs
  rest ← behind close xs.1
  Some (xs.0, rest)

-- the same, or no part at all
unfoldable pub closed_at : {A : Type 0} → List ℕ → (List ℕ → Read A) → List ℕ → Read (List A)
closed_at close part bs = choose (behind close bs) (λ rest. Some ([], rest)) (filled_at close part bs)

-- what follows an opening brace: the set of these numbers
unfoldable pub braces_at : List ℕ → Read (List Range)
braces_at bs = do
  xs ← filled_at (codes "}") number_at bs
  s ← listed xs.0
  Some (s, xs.1)

unfoldable pub set_at : List ℕ → Read (List Range)
set_at bs = choose (behind (codes "{") bs) braces_at (interval_at bs)
