-- Mirror of src/element.rt; private clauses only.
use Rattle.std.specs.Prelude.{◌≡◌, ℕ, Bool, true, false, List, Option, Some, None}
use Rattle.std.specs.Ordering.{int_eq}
use Rattle.mz_index.specs.Places.{Range, count_of}
use Rattle.mz_core.specs.declared.types.Base.{Base}
use Rattle.mz_core.specs.declared.types.Base.TheVariants as base
use Rattle.mz_arena.specs.Values.{Term, access_term, and_term, bit, comparison_term, guard_term, not_term, or_term}
use Rattle.mz_symbol.specs.declared.types.Lists.{Lists}
use Rattle.mz_symbol.specs.declared.types.Symbol.{Symbol}
use Rattle.mz_symbol.specs.Runs.{Run}
use Rattle.mz_symbol.specs.Readings.{Reading, state_of}
use Rattle.mz_symbol_access.specs.StepsPlace.{AreIndices, places_of}
use Rattle.mz_symbol_access.specs.StepsAlone.{IsReached}
use Rattle.mz_symbol_access.specs.StepsTruth.{truth_term}

-- a value of a base is a number
abbrev pub is_number : Base → Bool
is_number base.Bool = true
is_number base.Int = true
is_number (base.Enum e) = true
is_number b = false

-- a value where the array is defined, of a truth value whether it is true
abbrev pub plain_term : Base → Term → Term → Term
plain_term base.Bool d x = and_term d x
plain_term b d x = guard_term d x

-- an option is there, or its value is undefined
abbrev pub there_term : Term → Term → Term
there_term v o = or_term (not_term (comparison_term int_eq v v)) o

-- whether the option at a place isn't absent
abbrev pub occurs_at : Reading → Term → Term → Option ℕ → Term
occurs_at r v at None = bit true
occurs_at r v at (Some list) = there_term v (access_term at (r.term list))

-- the value at a place of an array with so many elements, as an option's value is; a list beside the values' one tells which of them are there
abbrev pub value_term : Base → ℕ → Option ℕ → Term → Term → Term
value_term b n (Some marks) at list = access_term at list
value_term base.Bool n None at list = truth_term n at list
value_term b n None at list = access_term at list

pub record IsOptionOf (r : Reading) (old new : Run) (b : Base) (n list : ℕ) (marks : Option ℕ) (place : ℕ) (s : Symbol) : Type 0 where
  pub same : state_of r old ≡ state_of r new
  pub base : s.base ≡ b
  pub there : ℕ
  pub occurs : s.occurs ≡ Some there
  pub occurs_is : occurs_at r (value_term b n marks (r.term place) (r.term list)) (r.term place) marks ≡ r.term there
  pub term_is : value_term b n marks (r.term place) (r.term list) ≡ r.term s.term

-- the place where the array is defined, and the value there
abbrev pub option_place : Reading → ℕ → ℕ → Term
option_place r d place = guard_term (r.term d) (r.term place)

abbrev pub option_term : Reading → Base → ℕ → ℕ → ℕ → Lists → Term
option_term r b n d place ls = value_term b n ls.occurs (option_place r d place) (r.term ls.terms)

pub record IsOptionAt (r : Reading) (old new : Run) (b : Base) (n d : ℕ) (ls : Lists) (place : ℕ) (s : Symbol) : Type 0 where
  pub same : state_of r old ≡ state_of r new
  pub number : is_number b ≡ true
  pub base : s.base ≡ b
  pub there : ℕ
  pub occurs : s.occurs ≡ Some there
  pub occurs_is : occurs_at r (option_term r b n d place ls) (option_place r d place) ls.occurs ≡ r.term there
  pub term_is : option_term r b n d place ls ≡ r.term s.term

pub record IsPlainAt (r : Reading) (old new : Run) (b : Base) (d : ℕ) (ls : Lists) (place : ℕ) (s : Symbol) : Type 0 where
  pub same : state_of r old ≡ state_of r new
  pub base : s.base ≡ b
  pub none : ls.occurs ≡ None
  pub occurs : s.occurs ≡ None
  pub term_is : plain_term b (r.term d) (access_term (r.term place) (r.term ls.terms)) ≡ r.term s.term

abbrev pub IsItemAt : Bool → Reading → Run → Run → Base → ℕ → ℕ → Lists → ℕ → Symbol → Type 0
IsItemAt true r old new b n d ls place s = IsOptionAt r old new b n d ls place s
IsItemAt false r old new b n d ls place s = IsPlainAt r old new b d ls place s

-- an element that indices reach
pub record IsFound (opt : Bool) (r : Reading) (old new : Run) (ix : List Range) (is : List Symbol) (b : Base) (d : ℕ) (ls : Lists) (s : Symbol) : Type 0 where
  pub indices : AreIndices is
  pub place : ℕ
  pub reached : IsReached ix (places_of r is) (r.term place)
  pub mid : Run
  pub same : state_of r old ≡ state_of r mid
  pub item : IsItemAt opt r mid new b (count_of ix) d ls place s
