-- Mirror of src/; private clauses only.
use Rattle.std.specs.Prelude.{◌≡◌, ℕ, Bool, true, false, ◌&&◌, List, [], ◌∷◌, ◌++◌, Option, Some, None, IsSome, slice_get}
use Rattle.mz_core.specs.declared.types.Base.{Base}
use Rattle.mz_core.specs.declared.types.Base.TheVariants as base
use Rattle.mz_arena.specs.Values.{Term, as_number, bit, is_true}
use Rattle.mz_symbol.specs.declared.types.Symbol.{Symbol}
use Rattle.mz_symbol.specs.Symbols.{symbol_value, IsItem}
use Rattle.mz_symbol.specs.Runs.{Run}
use Rattle.mz_symbol.specs.Readings.{Reading, state_of}
use Rattle.mz_symbol_arrays.specs.ArrayValues.{argued}

abbrev pub symbol_of : Base → Option ℕ → ℕ → Symbol
symbol_of b o id = record { base = b; occurs = o; term = id }

-- of a number, and no option
abbrev pub is_number_base : Base → Bool
is_number_base base.Int = true
is_number_base (base.Enum e) = true
is_number_base b = false

abbrev pub is_set_sort : Base → Bool
is_set_sort base.SetInt = true
is_set_sort (base.SetEnum e) = true
is_set_sort b = false

-- the second symbol is an element with the first one's value
pub record IsSame (t : ℕ → Term) (s x : Symbol) : Type 0 where
  pub item : IsItem t x
  pub value : symbol_value t x ≡ argued t s

-- AN ELEMENT OF THE SYMBOL'S VALUE, where a node is true; elsewhere the value isn't there
pub record IsItemFor (t : ℕ → Term) (s x : Symbol) (e : ℕ) : Type 0 where
  pub there : is_true (t e) ≡ true → IsSame t s x
  pub gone : is_true (t e) ≡ false → argued t s ≡ None

pub record MakesItem (r : Reading) (old new : Run) (s x : Symbol) (e : ℕ) : Type 0 where
  pub same : state_of r old ≡ state_of r new
  pub item : IsItemFor r.term s x e

-- a Boolean node that is true where another is, and is there
pub record Settles (r : Reading) (old new : Run) (x y : ℕ) : Type 0 where
  pub same : state_of r old ≡ state_of r new
  pub truth : is_true (r.term y) ≡ is_true (r.term x)
  pub there : IsSome (as_number (r.term y))

-- a node that is another where a third is true, and is there elsewhere
pub record IsFilled (t : ℕ → Term) (o x y : ℕ) : Type 0 where
  pub there : is_true (t o) ≡ true → t y ≡ t x
  pub gone : is_true (t o) ≡ false → IsSome (as_number (t y))

pub record Fills (r : Reading) (old new : Run) (o x y : ℕ) : Type 0 where
  pub same : state_of r old ≡ state_of r new
  pub filled : IsFilled r.term o x y

-- ---- the first elements

abbrev pub AreSame : (ℕ → Term) → List Symbol → List Symbol → Type 0
AreSame t ss [] = Unit {0}
AreSame t [] (x ∷ xs) = ⊥
AreSame t (s ∷ ss) (x ∷ xs) = IsSame t s x × AreSame t ss xs

-- the value of one of the first so many isn't there
pub record IsGone (t : ℕ → Term) (ss : List Symbol) : Type 0 where
  pub place : ℕ
  pub symbol : Symbol
  pub at : slice_get ss place ≡ Some symbol
  pub gone : argued t symbol ≡ None

-- where a node is true, the first elements have the values of the first symbols; elsewhere some value isn't there
pub record AreItemsFor (t : ℕ → Term) (ss xs : List Symbol) (d : ℕ) : Type 0 where
  pub there : is_true (t d) ≡ true → AreSame t ss xs
  pub gone : is_true (t d) ≡ false → IsGone t ss

pub record MakesItems (r : Reading) (old new : Run) (ss xs : List Symbol) (d : ℕ) : Type 0 where
  pub same : state_of r old ≡ state_of r new
  pub items : AreItemsFor r.term ss xs d

abbrev pub both_true : Bool → Bool → Term
both_true p q = bit (p && q)

-- one element more
pub record OneMore (r : Reading) (old new : Run) (ss : List Symbol) (i : ℕ) (xs ys : List Symbol) (d e : ℕ) : Type 0 where
  pub same : state_of r old ≡ state_of r new
  pub source : Symbol
  pub at : slice_get ss i ≡ Some source
  pub symbol : Symbol
  pub own : ℕ
  pub item : IsItemFor r.term source symbol own
  pub both : r.term e ≡ both_true (is_true (r.term d)) (is_true (r.term own))
  pub list : ys ≡ xs ++ symbol ∷ []
