-- Mirror of src/single.rt, src/lifting.rt and src/items.rt; private clauses only.
use Rattle.std.specs.Prelude.{◌≡◌, ℕ, true, false, List, [], ◌∷◌, ◌++◌, Option, Some, None, length, take, ◌*◌, slice_get}
use Rattle.mz_arena.specs.Values.{Term, if_term, is_true}
use Rattle.mz_symbol.specs.declared.types.Symbol.{Symbol}
use Rattle.mz_symbol.specs.Symbols.{occurs_term}
use Rattle.mz_symbol.specs.Runs.{Run}
use Rattle.mz_symbol.specs.Readings.{Reading, Reads, state_of}
use Rattle.mz_symbol.specs.Makes.{GoesOnBy}
use Rattle.mz_symbol_access.specs.Standing.{StandsFor, ReplacesAll}

abbrev pub AreNone : Option ℕ → Option ℕ → Type 0
AreNone None None = Unit {0}
AreNone p q = ⊥

-- the occurrences of two options, by a condition, or none of what is no option; what is no option occurs
abbrev pub IsOccurring : (ℕ → Term) → ℕ → Option ℕ → Option ℕ → Option ℕ → Type 0
IsOccurring t c p q None = AreNone p q
IsOccurring t c p q (Some w) = if_term (t c) (occurs_term t p) (occurs_term t q) ≡ t w

pub record Occurs (r : Reading) (old new : Run) (c : ℕ) (p q o : Option ℕ) : Type 0 where
  pub same : state_of r old ≡ state_of r new
  pub is : IsOccurring r.term c p q o

-- one of two symbols, by a condition
pub record IsPicked (t : ℕ → Term) (c : ℕ) (p q s : Symbol) : Type 0 where
  pub first : s.base ≡ p.base
  pub second : s.base ≡ q.base
  pub occurs : IsOccurring t c p.occurs q.occurs s.occurs
  pub term : if_term (t c) (t p.term) (t q.term) ≡ t s.term

pub record Picks (r : Reading) (old new : Run) (c : ℕ) (p q s : Symbol) : Type 0 where
  pub same : state_of r old ≡ state_of r new
  pub is : IsPicked r.term c p q s

-- ---- elements, where truth values beside options count as options

pub record Replaces (r : Reading) (old new : Run) (p x : Symbol) : Type 0 where
  pub same : state_of r old ≡ state_of r new
  pub is : StandsFor r.term p x

-- the symbol for that at a place, from 0
pub record ReplacesAt (r : Reading) (old new : Run) (ps : List Symbol) (i : ℕ) (x : Symbol) : Type 0 where
  pub first : Symbol
  pub is_first : slice_get ps i ≡ Some first
  pub replaces : Replaces r old new first x

pub record PushesLifted (old new : Run) (ps : List Symbol) (i : ℕ) (ss zs : List Symbol) : Type 0 where
  pub last : Symbol
  pub pushed : zs ≡ ss ++ last ∷ []
  pub replaces : (r : Reading) → Reads r new → ReplacesAt r old new ps i last

-- the symbols for the first ones
pub record HasLifted (old new : Run) (ps : List Symbol) (i : ℕ) (xs : List Symbol) : Type 0 where
  pub goes : GoesOnBy (4 * i) old new
  pub count : length xs ≡ i
  pub replaces : (r : Reading) → Reads r new → ReplacesAll r old new (take i ps) xs

-- one of two elements, by a condition
pub record IsChosen (t : ℕ → Term) (c : ℕ) (p q s : Symbol) : Type 0 where
  pub first : is_true (t c) ≡ true → StandsFor t p s
  pub second : is_true (t c) ≡ false → StandsFor t q s

pub record Chooses (r : Reading) (old new : Run) (c : ℕ) (p q s : Symbol) : Type 0 where
  pub same : state_of r old ≡ state_of r new
  pub is : IsChosen r.term c p q s

-- the element for the two at a place, from 0
pub record ChoosesAt (r : Reading) (old new : Run) (c : ℕ) (ps qs : List Symbol) (i : ℕ) (s : Symbol) : Type 0 where
  pub first : Symbol
  pub is_first : slice_get ps i ≡ Some first
  pub second : Symbol
  pub is_second : slice_get qs i ≡ Some second
  pub chooses : Chooses r old new c first second s

pub record PushesAt (old new : Run) (c : ℕ) (ps qs : List Symbol) (i : ℕ) (ss zs : List Symbol) : Type 0 where
  pub last : Symbol
  pub pushed : zs ≡ ss ++ last ∷ []
  pub chooses : (r : Reading) → Reads r new → ChoosesAt r old new c ps qs i last

-- element by element
abbrev pub AreChosen : (ℕ → Term) → ℕ → List Symbol → List Symbol → List Symbol → Type 0
AreChosen t c [] [] [] = Unit {0}
AreChosen t c (p ∷ ps) (q ∷ qs) (s ∷ ss) = IsChosen t c p q s × AreChosen t c ps qs ss
AreChosen t c ps qs ss = ⊥

pub record ChoosesAll (r : Reading) (old new : Run) (c : ℕ) (ps qs ss : List Symbol) : Type 0 where
  pub same : state_of r old ≡ state_of r new
  pub are : AreChosen r.term c ps qs ss

-- the elements for the first ones of both
pub record HasChosen (old new : Run) (c : ℕ) (ps qs : List Symbol) (i : ℕ) (ss : List Symbol) : Type 0 where
  pub goes : GoesOnBy (36 * i) old new
  pub count : length ss ≡ i
  pub chooses : (r : Reading) → Reads r new → ChoosesAll r old new c (take i ps) (take i qs) ss
