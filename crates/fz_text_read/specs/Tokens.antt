-- What texts, numbers, names and sets are read to. Each function reads what its name says from the first bytes, and gives
-- it with the bytes after it; None where the bytes don't begin so. More is read than is spelled: who asks for the one
-- spelling compares it with the bytes.
use Rattle.std.specs.Prelude.{ℕ, ℤ, pos, neg_ℤ, List, Option, Some, codes}
use Rattle.std.specs.List.{prefix_len}
use Rattle.mz_value.specs.Ranges.{Range}
use Rattle.fz_items.specs.Bytes.{is_name_byte}
use Rattle.fz_items.specs.Items.{◌>>=◌, Read, choose, without, digits_at, name_of, interval}

-- the bytes after a text
unfoldable pub behind : List ℕ → List ℕ → Option (List ℕ)
behind text bs = without text bs

-- digits, and digits with `-` before them; what is past the limit counts as the first number past it
unfoldable pub negative_at : List ℕ → Read ℤ
negative_at bs = do
  n ← digits_at bs
  Some (neg_ℤ (pos n.0), n.1)

unfoldable pub natural_at : List ℕ → Read ℤ
natural_at bs = do
  n ← digits_at bs
  Some (pos n.0, n.1)

unfoldable pub number_at : List ℕ → Read ℤ
number_at bs = choose (behind (codes "-") bs) negative_at (natural_at bs)

-- a letter, and then letters, digits and `_`
unfoldable pub name_at : List ℕ → Read (List ℕ)
name_at bs = name_of (prefix_len is_name_byte bs) bs

-- what follows `l..`: the set from l on
unfoldable pub interval_from : ℤ → List ℕ → Read (List Range)
interval_from low bs = do
  high ← number_at bs
  s ← interval low high.0
  Some (s, high.1)

-- `l..u`, any two numbers: a range of indices
unfoldable pub range_at : List ℕ → Read Range
range_at bs = do
  low ← number_at bs
  dots ← behind (codes "..") low.1
  high ← number_at dots
  Some ((low.0, high.0), high.1)

-- `l..u`, as a set
unfoldable pub interval_at : List ℕ → Read (List Range)
interval_at bs = do
  low ← number_at bs
  dots ← behind (codes "..") low.1
  interval_from low.0 dots
