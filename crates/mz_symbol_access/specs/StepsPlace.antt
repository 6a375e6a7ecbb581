-- Mirror of src/shift.rt and src/place.rt; private clauses only.
use Rattle.std.specs.Prelude.{◌≡◌, ◌⊎◌, ℕ, suc, ◌+◌, ◌*◌, ℤ, pos, ◌+ℤ◌, ◌-ℤ◌, neg_ℤ, int_le, Bool, true, false, List, [], ◌∷◌, map, Option, Some, None, if◌then◌else◌}
use Rattle.std.specs.Option.{option_map}
use Rattle.mz_index.specs.Places.{Range, count_of, is_inside, offset_of}
use Rattle.mz_core.specs.declared.types.Base.{Base}
use Rattle.mz_core.specs.declared.types.Base.TheVariants as base
use Rattle.mz_operations.specs.declared.row.Arith.TheVariants.{Add, Mul}
use Rattle.mz_operations.specs.declared.row.Side.TheVariants.{Least, Greatest}
use Rattle.mz_arena.specs.declared.node.Node.{Node}
use Rattle.mz_arena.specs.declared.node.NodeKind.TheVariants as kind
use Rattle.mz_arena.specs.Values.{Term, as_number, number, empty, and_term, arith_term, comparison_term, cons_term, extreme_term}
use Rattle.mz_symbol.specs.declared.types.Symbol.{Symbol}
use Rattle.mz_symbol.specs.Runs.{Run}
use Rattle.mz_symbol.specs.Readings.{Reading, state_of}

abbrev pub whole : ℤ → Term
whole n = Some (number n)

-- ---- one index

abbrev pub is_index : Base → Bool
is_index base.Int = true
is_index (base.Enum e) = true
is_index b = false

-- an integer or a case, and no option
pub record IsIndex (s : Symbol) : Type 0 where
  pub is : is_index s.base ≡ true
  pub plain : s.occurs ≡ None

abbrev pub AreIndices : List Symbol → Type 0
AreIndices [] = Unit {0}
AreIndices (s ∷ ss) = IsIndex s × AreIndices ss

abbrev pub sum_node : ℕ → ℕ → Node
sum_node x y = record { kind = kind.Add; a = x; b = y; c = 0; number = pos 0 }

abbrev pub inside_term : Range → Term → Term
inside_term r x = and_term (comparison_term int_le (whole r.0) x) (comparison_term int_le x (whole r.1))

abbrev pub list_of_two : Term → Term → Term
list_of_two x y = cons_term x (cons_term y (Some empty))

abbrev pub near_term : Range → Term → Term
near_term r x = extreme_term Greatest (list_of_two (extreme_term Least (list_of_two x (whole r.1))) (whole r.0))

-- what is added to an index, so that the lower end becomes 0, or 1
abbrev pub step_of : Range → Bool → ℤ
step_of r true = pos 1 -ℤ r.0
step_of r false = neg_ℤ r.0

abbrev pub shift_term : Range → Bool → Term → Term
shift_term r one x = arith_term Add x (whole (step_of r one))

-- an index counted from the lower end, or the nearest end so counted, or an index that is so counted already
abbrev pub IsShifted : Range → Bool → Term → Term → Type 0
IsShifted range one x z = (z ≡ shift_term range one x) ⊎ ((z ≡ shift_term range one (near_term range x)) ⊎ ((step_of range one ≡ pos 0) × (z ≡ x)))

pub record Shifts (r : Reading) (old new : Run) (range : Range) (one : Bool) (x id : ℕ) : Type 0 where
  pub same : state_of r old ≡ state_of r new
  pub is : IsShifted range one (r.term x) (r.term id)

-- an index counted from the lower end, where it lies in the range
abbrev pub offset_in : Range → Bool → Option ℤ → Term
offset_in r one None = None
offset_in r one (Some i) = if is_inside r i then whole (i +ℤ step_of r one) else None

-- ---- the place

abbrev pub joined_term : ℕ → Term → Term → Term
joined_term n offset place = arith_term Add (arith_term Mul offset (whole (pos n))) place

abbrev pub places_of : Reading → List Symbol → List (Option ℤ)
places_of r ss = map (λ s. as_number (r.term s.term)) ss

-- the place of indices that are there or not
abbrev pub placed : List Range → List (Option ℤ) → Option ℕ
placed [] [] = Some 0
placed [] (o ∷ os) = None
placed (r ∷ rs) [] = None
placed (r ∷ rs) (None ∷ os) = None
placed (r ∷ rs) (Some i ∷ os) = if is_inside r i then option_map (λ place. offset_of r i * count_of rs + place) (placed rs os) else None

-- as a number, from 1
abbrev pub place_term : List Range → List (Option ℤ) → Term
place_term rs os = option_map (λ k. number (pos (suc k))) (placed rs os)
