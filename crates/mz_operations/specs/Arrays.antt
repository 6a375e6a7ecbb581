-- The elements of arrays, folds over them, and index sets.
use Rattle.std.specs.Prelude.{ℕ, zero, suc, ◌+◌, ◌*◌, length, ℤ, pos, nat_eq, nat_le, List, [], ◌∷◌, ◌++◌, Bool, true, false, ◌&&◌, Option, Some, None, unwrap_or, if◌then◌else◌}
use Rattle.mz_value.specs.Ranges.{Range, range_of, cardinality}
use Rattle.mz_value.specs.Contents.{Content, int, case, array, contents}
use Rattle.mz_operations.specs.declared.row.Fold.{Fold}
use Rattle.mz_operations.specs.declared.row.Fold.TheVariants.{Sum, SumOfOptions, Product}
use Rattle.mz_operations.specs.declared.row.Quantifier.{Quantifier}
use Rattle.mz_operations.specs.declared.row.Quantifier.TheVariants.{Forall, Exists, Xorall}
use Rattle.mz_operations.specs.declared.row.Side.TheVariants.{Least, Greatest}
use Rattle.mz_operations.specs.Views.{◌>>=◌, as_bool, as_int, is_absent}
use Rattle.mz_operations.specs.Sets.{end_of}
use Rattle.mz_operations.specs.Arguments.{Arguments, set_at}

-- a fold from left to right: what each element is, and the step that takes it in; none where an element is of another kind
unfoldable pub fold_from : {A B : Type 0} → (Content → Option A) → (B → A → B) → B → List Content → Option B
fold_from see step acc [] = Some acc
fold_from see step acc (x ∷ xs) = see x >>= λ a. fold_from see step (step acc a) xs

-- an element of a sum or product: an absent one of a sum of options counts as 0
unfoldable pub summand : Fold → Content → Option ℤ
summand Sum x = as_int x
summand SumOfOptions x = if is_absent x then Some (pos 0) else as_int x
summand Product x = as_int x

-- a truth value, or what an absent one counts as
abbrev pub truth_or : Bool → Content → Option Bool
truth_or d x = if is_absent x then Some d else as_bool x

-- an element of a quantifier: an absent one counts as true in `forall` and as false in `exists`
unfoldable pub instance : Quantifier → Content → Option Bool
instance Forall x = truth_or true x
instance Exists x = truth_or false x
instance Xorall x = as_bool x

-- an integer, or a case of this enum
abbrev pub element_of : Option ℕ → ℤ → Content
element_of None n = int n
element_of (Some e) n = case e n

-- an array with the index set 1..n
abbrev pub line : List Content → Content
line xs = array ((pos 1, pos (length xs)) ∷ []) (contents xs)

-- how many places index ranges have
unfoldable pub place_count : List Range → ℕ
place_count [] = 1
place_count (r ∷ rs) = cardinality (range_of r.0 r.1) * place_count rs

abbrev pub is_contiguous : List Range → Bool
is_contiguous s = nat_le (length s) 1

-- a set as an index range: 1..0 where it is empty
abbrev pub index_range : List Range → Range
index_range s = (unwrap_or (end_of Least s) (pos 1), unwrap_or (end_of Greatest s) (pos 0))

-- index ranges, and whether all their sets are contiguous
pub record IndexShape : Type 0 where
  pub contiguous : Bool
  pub ranges : List Range

unfoldable pub with_index : IndexShape → List Range → IndexShape
with_index w s = record { contiguous = w.contiguous && is_contiguous s; ranges = w.ranges ++ index_range s ∷ [] }

-- this many arguments, from a place on, as index sets
unfoldable pub shape_from : ℕ → ℕ → Arguments → IndexShape → Option IndexShape
shape_from zero k args w = Some w
shape_from (suc n) k args w = set_at args k >>= λ s. shape_from n (k + 1) args (with_index w s)

-- the first d arguments as index sets
abbrev pub shape : ℕ → Arguments → Option IndexShape
shape d args = shape_from d 0 args (record { contiguous = true; ranges = [] })

-- contiguous index sets with as many places as there are elements
abbrev pub is_shape_of : IndexShape → ℕ → Bool
is_shape_of w n = w.contiguous && nat_eq (place_count w.ranges) n
