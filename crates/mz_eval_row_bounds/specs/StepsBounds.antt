-- Mirror of src/by_bounds.rt; private clauses only.
use Rattle.std.specs.Prelude.{ℕ, length, List, Option, Some, None, nat_eq, slice_get, if◌then◌else◌}
use Rattle.mz_value.specs.Ranges.{Range}
use Rattle.mz_value.specs.Contents.{Content, bool, set}
use Rattle.mz_operations.specs.Views.{◌>>=◌}
use Rattle.mz_operations.specs.Sets.{up_to}
use Rattle.mz_operations.specs.Bounds.{Bound, Bounds, is_settled}
use Rattle.mz_operations.specs.RowBounds.{as_one, as_ranges, lower_of, upper_of}

abbrev pub lower_in : Bounds → Option Content
lower_in b = as_one b >>= λ c. Some (lower_of c)

abbrev pub upper_in : Bounds → Option Content
upper_in b = as_one b >>= λ c. Some (upper_of c)

abbrev pub settled_in : Bounds → Option Content
settled_in b = as_one b >>= λ c. Some (bool (is_settled c))

abbrev pub fixed_of : Bound → Option Content
fixed_of c = if is_settled c then Some (upper_of c) else None

abbrev pub fixed_in : Bounds → Option Content
fixed_in b = as_one b >>= fixed_of

abbrev pub index_set_of : ℕ → ℕ → List Range → Option Content
index_set_of k d rs = do
  r ← slice_get rs k
  s ← up_to r.0 r.1
  if nat_eq (length rs) d then Some (set None s) else None

abbrev pub index_set_in : ℕ → ℕ → Bounds → Option Content
index_set_in k d b = as_ranges b >>= index_set_of k d
