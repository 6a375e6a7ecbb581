-- Mirror of src/cons.rt; private clauses only.
use Rattle.std.specs.Prelude.{◌≡◌, ℕ, zero, suc, nat_eq, List, [], ◌∷◌, map, Bool, true, false, not, is_some, Option, Some, None, slice_get}
use Rattle.std.specs.List.{list_all}
use Rattle.mz_core.specs.declared.types.Base.{Base}
use Rattle.mz_core.specs.declared.types.Base.TheVariants as base
use Rattle.mz_arena.specs.Entries.{Entry}
use Rattle.mz_arena.specs.Values.{Term, empty, cons_term}
use Rattle.mz_symbol.specs.declared.types.Symbol.{Symbol}
use Rattle.mz_symbol.specs.declared.types.Line.{Line}
use Rattle.mz_symbol.specs.declared.types.Lists.{Lists}
use Rattle.mz_symbol.specs.declared.types.Listing.{Listing}
use Rattle.mz_symbol.specs.declared.cons.ListOf.{ListOf}
use Rattle.mz_symbol.specs.declared.cons.ListOf.TheVariants.{Values, Occurrences}
use Rattle.mz_symbol.specs.Symbols.{occurs_term, AreLists}
use Rattle.mz_symbol.specs.Runs.{Run, ReadsNodes, IsRun}

abbrev pub all_plain : List Symbol → Bool
all_plain ss = list_all (λ s. not (is_some s.occurs)) ss

-- the same base, of what an element may be
abbrev pub is_alike : Base → Base → Bool
is_alike base.Bool base.Bool = true
is_alike base.Int base.Int = true
is_alike (base.Enum d) (base.Enum e) = nat_eq d e
is_alike base.SetInt base.SetInt = true
is_alike (base.SetEnum d) (base.SetEnum e) = nat_eq d e
is_alike a b = false

abbrev pub all_alike : Base → List Symbol → Bool
all_alike b ss = list_all (λ s. is_alike s.base b) ss

-- the elements of an array; none where there is no such array
abbrev pub items_in : Option Line → List Symbol
items_in None = []
items_in (Some l) = l.items.items

abbrev pub items_at : Run → ℕ → List Symbol
items_at s k = items_in (slice_get s.lines k)

-- how far an array's lists are made
pub record IsListed (s : Run) (k : ℕ) (x : Listing) : Type 0 where
  pub line : Line
  pub stands : slice_get s.lines k ≡ Some line
  pub is : line.listing ≡ x
  pub sound : IsRun s

abbrev pub with_listing : Line → Listing → Line
with_listing l x = record { defined = l.defined; items = l.items; listing = x }

abbrev pub marked : List Line → ℕ → Listing → List Line
marked [] k x = []
marked (l ∷ ls) zero x = with_listing l x ∷ ls
marked (l ∷ ls) (suc k) x = l ∷ marked ls k x

-- how far one array's lists are made was noted, and nothing else changed
pub record IsMarked (old new : Run) (k : ℕ) (x : Listing) : Type 0 where
  pub work : new.work ≡ old.work
  pub weight : new.weight ≡ old.weight
  pub saved : new.saved ≡ old.saved
  pub arena : new.arena ≡ old.arena
  pub choices : new.choices ≡ old.choices
  pub lines : new.lines ≡ marked old.lines k x

-- the lists of these elements
abbrev pub AreListsOf : Run → List Symbol → Lists → Type 0
AreListsOf s ss ls = (t : ℕ → Term) → ReadsNodes t s.arena → AreLists t ss ls

-- what a list has of an element
abbrev pub part_of : ListOf → (ℕ → Term) → Symbol → Term
part_of Values t s = t s.term
part_of Occurrences t s = occurs_term t s.occurs

unfoldable pub parts_list : ListOf → (ℕ → Term) → List Symbol → Term
parts_list w t [] = Some empty
parts_list w t (s ∷ ss) = cons_term (part_of w t s) (parts_list w t ss)

abbrev pub IsListOf : List Entry → ListOf → List Symbol → ℕ → Type 0
IsListOf es w ss id = (t : ℕ → Term) → ReadsNodes t es → t id ≡ parts_list w t ss

-- a list with what one element has before the rest
pub record IsOneMore (old new : Run) (k i : ℕ) (w : ListOf) (rest id : ℕ) : Type 0 where
  pub element : Symbol
  pub place : slice_get (items_at old k) i ≡ Some element
  pub is : (t : ℕ → Term) → ReadsNodes t new.arena → t id ≡ cons_term (part_of w t element) (t rest)
