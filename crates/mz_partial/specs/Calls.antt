-- What the calls give, in each arena that goes on from theirs.
use Rattle.std.specs.Prelude.{◌≡◌, ℕ, ◌+◌, ◌≤◌, zero, ℤ, pos, ◌≤ℤ◌, ◌<ℤ◌, int_le, not, List, [], Bool, true, ◌&&◌, Option, Some, None, ◌⊎◌, if◌then◌else◌}
use Rattle.std.specs.Ordering.{int_eq}
use Rattle.mz_interval.specs.Ends.{Ends, Encloses}
use Rattle.mz_operations.specs.Bounds as bounds
use Rattle.mz_arena.specs.Entries.{Entry}
use Rattle.mz_arena.specs.Values.{Val, number, Values, is_true}
use Rattle.mz_arena.specs.Terms.{term}
use Rattle.mz_arena.specs.Extents.{Known, whole, truth, subset, open_truth, extent}
use Rattle.mz_arena.specs.Arenas.{IsArena, Grew, Extends}
use Rattle.mz_arena.specs.InBounds.{AreInBounds}
use Rattle.mz_partial.specs.declared.part.Part.{Part}
use Rattle.mz_partial.specs.Costs.{costs}
use Rattle.mz_partial.specs.Totals.{IsTruth, SaysAt, Says, Has, IsPart}

-- what is asked of a flag: a Boolean node
abbrev pub IsFlag : List Entry → Option ℕ → Type 0
IsFlag es None = Unit {0}
IsFlag es (Some d) = IsTruth es d

-- a flag that says both
pub record Joins (old new : List Entry) (f g h : Option ℕ) : Type 0 where
  pub extends : Extends old new
  pub arena : IsArena new
  pub cost : costs new ≤ costs old + 2
  pub says : (es : List Entry) → Grew new es → IsArena es → (a b : Values → Bool) → Says es f a → Says es g b → Says es h (λ v. a v && b v)
  pub flag : IsFlag old f → IsFlag old g → IsFlag new h
  pub own : f ≡ None → g ≡ None → (h ≡ None) × (new ≡ old)

-- a Boolean under a flag
pub record Conjoins (old new : List Entry) (f : Option ℕ) (t r : ℕ) : Type 0 where
  pub extends : Extends old new
  pub arena : IsArena new
  pub cost : costs new ≤ costs old + 2
  pub says : (es : List Entry) → Grew new es → IsArena es → (a b : Values → Bool) → Says es f a → SaysAt es t b → SaysAt es r (λ v. a v && b v)
  pub bounds : (es : List Entry) → Grew new es → IsArena es → IsTruth es t → ((d : ℕ) → f ≡ Some d → extent es t ≡ open_truth) → extent es r ≡ extent es t
  pub own : f ≡ None → (r ≡ t) × (new ≡ old)

-- a Boolean that is true where an id is defined and true
pub record Reads (old new : List Entry) (id : ℕ) (p : Part) (t : ℕ) : Type 0 where
  pub extends : Extends old new
  pub arena : IsArena new
  pub cost : costs new ≤ costs old + 2
  pub says : (es : List Entry) → Grew new es → IsArena es → IsPart es id p → IsTruth es id → SaysAt es t (λ v. is_true (term v es id))
  pub bounds : (es : List Entry) → Grew new es → IsArena es → IsPart es id p → IsTruth es id → extent es t ≡ extent es id
  pub own : p.flag ≡ None → (t ≡ p.term) × (new ≡ old)

-- a flag that says the first where a condition holds, and else the second
pub record Chooses (old new : List Entry) (c : ℕ) (f g h : Option ℕ) : Type 0 where
  pub extends : Extends old new
  pub arena : IsArena new
  pub cost : costs new ≤ costs old + 6
  pub says : (es : List Entry) → Grew new es → IsArena es → (b x y : Values → Bool) → SaysAt es c b → Says es f x → Says es g y → Says es h (λ v. if b v then x v else y v)
  pub own : f ≡ None → g ≡ None → (h ≡ None) × (new ≡ old)

-- a constant
pub record IsNumber (old new : List Entry) (n : ℤ) (t : ℕ) : Type 0 where
  pub extends : Extends old new
  pub arena : IsArena new
  pub cost : costs new ≤ costs old
  pub has : (es : List Entry) → Grew new es → IsArena es → Has es t (Some (whole (n, n))) (λ v. number n)

pub record IsConstant (old new : List Entry) (b : Bool) (t : ℕ) : Type 0 where
  pub extends : Extends old new
  pub arena : IsArena new
  pub cost : costs new ≤ costs old
  pub says : (es : List Entry) → Grew new es → IsArena es → SaysAt es t (λ v. b)

-- a flag that tests an integer node, at a cost of at most this; none where the bounds tell that it passes
pub record Tests (most : ℕ) (told : Type 0) (old new : List Entry) (u : ℕ) (holds : ℤ → Bool) (f : Option ℕ) : Type 0 where
  pub extends : Extends old new
  pub arena : IsArena new
  pub cost : costs new ≤ costs old + most
  pub own : told → (f ≡ None) × (new ≡ old)
  pub flag : IsFlag new f
  pub says : (es : List Entry) → Grew new es → IsArena es → (x : Known) (m : Values → ℤ) → Has es u x (λ v. number (m v)) → Says es f (λ v. holds (m v))

-- an integer node that is another's value under a flag, and else a number
pub record IsSafe (old new : List Entry) (u : ℕ) (f : Option ℕ) (k : ℤ) (w : ℕ) : Type 0 where
  pub extends : Extends old new
  pub arena : IsArena new
  pub cost : costs new ≤ costs old + 6
  pub own : f ≡ None → (w ≡ u) × (new ≡ old)
  pub has : (es : List Entry) → Grew new es → IsArena es → (e : Ends) (m : Values → ℤ) (b : Values → Bool) → Has es u (Some (whole e)) (λ v. number (m v)) → Encloses e k → Says es f b → Has es w (Some (whole e)) (λ v. number (if b v then m v else k))

abbrev pub is_nonzero : ℤ → Bool
is_nonzero m = not (int_eq m (pos 0))

abbrev pub is_from_one : ℤ → Bool
is_from_one m = int_le (pos 1) m

abbrev pub is_up_to : ℤ → ℤ → Bool
is_up_to n m = int_le m n

-- a place of a list of n elements
abbrev pub is_place : ℤ → ℤ → Bool
is_place n m = is_from_one m && is_up_to n m

pub record IsPlaceWithin (e : Ends) (n k : ℤ) : Type 0 where
  pub within : Encloses e k
  pub place : is_place n k ≡ true

-- a place within bounds; 0 where there is none
abbrev pub IsPlaceIn : Ends → ℤ → ℤ → Type 0
IsPlaceIn e n (pos zero) = (e.1 ≤ℤ pos 0) ⊎ ((n <ℤ e.0) ⊎ (n ≤ℤ pos 0))
IsPlaceIn e n k = IsPlaceWithin e n k

-- bounds of what never has a value
abbrev pub IsNever : Known → Type 0
IsNever (Some (whole e)) = e ≡ bounds.nothing
IsNever (Some (truth e)) = e ≡ bounds.truth
IsNever (Some (subset u)) = u ≡ []
IsNever _ = ⊥

pub record HasNoValue (es : List Entry) (id : ℕ) : Type 0 where
  pub bounds : IsNever (extent es id)
  pub is : (v : Values) → AreInBounds es v → term v es id ≡ None

-- a total node with given bounds
pub record IsBlank (old new : List Entry) (x : Known) (t : ℕ) : Type 0 where
  pub extends : Extends old new
  pub arena : IsArena new
  pub cost : costs new ≤ costs old + 2
  pub value : Values → Val
  pub has : (es : List Entry) → Grew new es → IsArena es → Has es t x value
