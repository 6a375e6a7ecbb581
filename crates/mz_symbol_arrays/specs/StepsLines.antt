-- Mirror of src/seen.rt and src/walk.rt; private clauses only.
use Rattle.std.specs.Prelude.{◌≡◌, ℕ, ◌+ℤ◌, pos, Bool, true, false, not, ◌&&◌, ◌||◌, List, [], ◌∷◌, drop, slice_get, Option, Some, None, if◌then◌else◌}
use Rattle.std.specs.Option.{option_and_then}
use Rattle.mz_value.specs.Contents.{Content}
use Rattle.mz_value.specs.Contents as values
use Rattle.mz_operations.specs.declared.row.ScalarRow.{ScalarRow}
use Rattle.mz_operations.specs.declared.row.ScalarRow.TheVariants as row
use Rattle.mz_operations.specs.declared.row.Quantifier.{Quantifier}
use Rattle.mz_operations.specs.declared.row.Quantifier.TheVariants as quantifier
use Rattle.mz_operations.specs.Views.{as_bool}
use Rattle.mz_operations.specs.Numbers.{same}
use Rattle.mz_operations.specs.Arrays.{truth_or}
use Rattle.mz_core.specs.declared.types.Base.TheVariants as base
use Rattle.mz_symbol.specs.declared.types.Symbol.{Symbol}
use Rattle.mz_symbol.specs.Symbols.{symbol_value}
use Rattle.mz_symbol.specs.Runs.{Run}
use Rattle.mz_symbol.specs.Readings.{Reading, IsGiven, state_of}
use Rattle.mz_symbol_arrays.specs.declared.lines.walk.Walk.{Walk}
use Rattle.mz_symbol_arrays.specs.declared.lines.walk.Walk.TheVariants.{Forall, Exists, Xorall, Count}

-- ---- elements as truth values, and what is made of them, from the first to the last

abbrev pub seen_as : Walk → Content → Option Bool
seen_as Forall x = truth_or true x
seen_as Exists x = truth_or false x
seen_as Xorall x = as_bool x
seen_as Count x = truth_or false x

abbrev pub joined : Walk → Content → Bool → Option Content
joined Forall (values.bool p) b = Some (values.bool (p && b))
joined Exists (values.bool p) b = Some (values.bool (p || b))
joined Xorall (values.bool p) b = Some (values.bool (not (same p b)))
joined Count (values.int n) b = Some (values.int (if b then n +ℤ pos 1 else n))
joined w a b = None

abbrev pub next_of : Walk → Content → Content → Option Content
next_of w a x = option_and_then (joined w a) (seen_as w x)

unfoldable pub walk_from : Walk → Content → List Content → Option Content
walk_from w a [] = Some a
walk_from w a (x ∷ xs) = option_and_then (λ b. walk_from w b xs) (next_of w a x)

abbrev pub start_of : Walk → Content
start_of Forall = values.bool true
start_of Exists = values.bool false
start_of Xorall = values.bool false
start_of Count = values.int (pos 0)

-- what a walk's value may be
abbrev pub HasSort : Walk → Content → Type 0
HasSort Count (values.int n) = Unit {0}
HasSort Count a = ⊥
HasSort w (values.bool p) = Unit {0}
HasSort w a = ⊥

abbrev pub row_of : Walk → ScalarRow
row_of Forall = row.Quantified quantifier.Forall
row_of Exists = row.Quantified quantifier.Exists
row_of Xorall = row.Quantified quantifier.Xorall
row_of Count = row.Count

abbrev pub walk_of : Quantifier → Walk
walk_of quantifier.Forall = Forall
walk_of quantifier.Exists = Exists
walk_of quantifier.Xorall = Xorall

-- ---- what the calls give, under a reading

pub record IsSeenAs (see : Content → Option Bool) (x : Content) (v : Option Content) : Type 0 where
  pub truth : Bool
  pub seen : see x ≡ Some truth
  pub is : v ≡ Some (values.bool truth)

-- an element as a truth value
pub record IsSeen (r : Reading) (old new : Run) (see : Content → Option Bool) (y s : Symbol) : Type 0 where
  pub same : state_of r old ≡ state_of r new
  pub told : IsGiven r.mode → (x : Content) → symbol_value r.term y ≡ Some x → IsSeenAs see x (symbol_value r.term s)

pub record IsJoinedAs (w : Walk) (a : Content) (b : Bool) (v : Option Content) : Type 0 where
  pub value : Content
  pub joins : joined w a b ≡ Some value
  pub sort : HasSort w value
  pub is : v ≡ Some value

-- what is made of the elements before, with one more
pub record IsJoined (r : Reading) (old new : Run) (w : Walk) (acc y s : Symbol) : Type 0 where
  pub same : state_of r old ≡ state_of r new
  pub told : IsGiven r.mode → (a : Content) (b : Bool) → HasSort w a → symbol_value r.term acc ≡ Some a → symbol_value r.term y ≡ Some (values.bool b) → IsJoinedAs w a b (symbol_value r.term s)

pub record Follows (w : Walk) (xs : List Content) (i : ℕ) (a : Content) (v : Option Content) : Type 0 where
  pub element : Content
  pub at : slice_get xs i ≡ Some element
  pub value : Content
  pub next : next_of w a element ≡ Some value
  pub sort : HasSort w value
  pub is : v ≡ Some value

-- one element more
pub record Advances (r : Reading) (old new : Run) (w : Walk) (k i : ℕ) (acc s : Symbol) : Type 0 where
  pub same : state_of r old ≡ state_of r new
  pub next : IsGiven r.mode → (xs : List Content) → r.line k ≡ Some xs → (a : Content) → HasSort w a → symbol_value r.term acc ≡ Some a → Follows w xs i a (symbol_value r.term s)

pub record HasWalked (w : Walk) (xs : List Content) (i : ℕ) (v : Option Content) : Type 0 where
  pub value : Content
  pub is : v ≡ Some value
  pub sort : HasSort w value
  pub rest : walk_from w (start_of w) xs ≡ walk_from w value (drop i xs)

-- the first elements
pub record Walks (r : Reading) (old new : Run) (w : Walk) (k i : ℕ) (first s : Symbol) : Type 0 where
  pub same : state_of r old ≡ state_of r new
  pub so_far : IsGiven r.mode → (xs : List Content) → r.line k ≡ Some xs → symbol_value r.term first ≡ Some (start_of w) → HasWalked w xs i (symbol_value r.term s)

-- the truth value that a node is
abbrev pub truth_symbol : ℕ → Symbol
truth_symbol d = record { base = base.Bool; occurs = None; term = d }
