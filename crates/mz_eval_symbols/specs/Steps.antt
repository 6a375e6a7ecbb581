-- Mirror of src/; private clauses only.
use Rattle.std.specs.Prelude.{◌≡◌, ℕ, Bool, true, false, List, [], ◌∷◌, ◌++◌, length, map, Option, Some, None, IsSome, slice_get}
use Rattle.std.specs.Option.{option_map}
use Rattle.mz_value.specs.Contents.{Content}
use Rattle.mz_core.specs.declared.types.Base.{Base}
use Rattle.mz_core.specs.declared.types.Base.TheVariants as base
use Rattle.mz_arena.specs.Entries.{Entry}
use Rattle.mz_arena.specs.Values.{Term}
use Rattle.mz_meaning.specs.Coerced.{recast, recast_all}
use Rattle.mz_symbol.specs.declared.types.Symbol.{Symbol}
use Rattle.mz_symbol.specs.declared.types.Line.{Line}
use Rattle.mz_symbol.specs.Symbols.{symbol_value, IsItem, AreWhole}
use Rattle.mz_symbol.specs.Runs.{Run, ReadsNodes}
use Rattle.mz_symbol.specs.Readings.{Reading, state_of}
use Rattle.mz_symbol.specs.Arguments.{as_argument}
use Rattle.mz_eval_symbols.specs.StepsNodes.{IsCount}

-- ---- casts

-- a value as one of a base, if one is told
abbrev pub item_cast : Option Base → Content → Content
item_cast None x = x
item_cast (Some b) x = recast b x

abbrev pub is_int : Base → Bool
is_int base.Int = true
is_int b = false

abbrev pub is_case : Base → Bool
is_case (base.Enum e) = true
is_case b = false

abbrev pub is_set_sort : Base → Bool
is_set_sort base.SetInt = true
is_set_sort (base.SetEnum e) = true
is_set_sort b = false

-- the same node stands for a value recast to the second base
abbrev pub relabels : Base → Base → Bool
relabels base.Int b = is_case b
relabels (base.Enum e) b = is_int b
relabels base.SetInt b = is_set_sort b
relabels (base.SetEnum e) b = is_set_sort b
relabels a b = false

-- a truth value that is no option is counted as 0 or 1
pub record IsCounted (s : Symbol) (b : Base) : Type 0 where
  pub truth : s.base ≡ base.Bool
  pub occurs : s.occurs ≡ None
  pub to : b ≡ base.Int

-- an option of a truth value, whose node is 0 or 1 where it has a value, is counted by the same node
pub record IsCountedOption (es : List Entry) (s : Symbol) (b : Base) : Type 0 where
  pub truth : s.base ≡ base.Bool
  pub occurs : IsSome s.occurs
  pub to : b ≡ base.Int
  pub count : IsCount es s.term

-- an element recast
pub record IsCast (t : ℕ → Term) (b : Base) (s x : Symbol) : Type 0 where
  pub item : IsItem t s → IsItem t x
  pub value : IsItem t s → symbol_value t x ≡ option_map (recast b) (symbol_value t s)

abbrev pub argued : (ℕ → Term) → Symbol → Option Content
argued t s = as_argument s.base s.occurs (symbol_value t s)

pub record IsRecast (r : Reading) (old new : Run) (b : Base) (s x : Symbol) : Type 0 where
  pub same : state_of r old ≡ state_of r new
  pub argument : argued r.term x ≡ option_map (recast_all b) (argued r.term s)
  pub cast : IsCast r.term b s x

-- ---- constants

-- the base of sets of integers, or of cases of an enum
abbrev pub set_base : Option ℕ → Base
set_base None = base.SetInt
set_base (Some e) = base.SetEnum e

-- an element that has this value
pub record Stands (t : ℕ → Term) (x : Content) (s : Symbol) : Type 0 where
  pub value : symbol_value t s ≡ Some x
  pub item : IsItem t s

pub record IsConstant (r : Reading) (old new : Run) (x : Content) (s : Symbol) : Type 0 where
  pub same : state_of r old ≡ state_of r new
  pub stands : Stands r.term x s

-- ---- lists of symbols, made one by one

-- each symbol stands for the source at its place
abbrev pub ArePrefix : {A : Type 0} → (A → Symbol → Type 0) → List A → List Symbol → Type 0
ArePrefix R xs [] = Unit {0}
ArePrefix R [] (s ∷ ss) = ⊥
ArePrefix R (x ∷ xs) (s ∷ ss) = R x s × ArePrefix R xs ss

pub record AreMade {A : Type 0} (R : A → Symbol → Type 0) (xs : List A) (n : ℕ) (ss : List Symbol) : Type 0 where
  pub prefix : ArePrefix R xs ss
  pub count : length ss ≡ n

pub record OneMore {A : Type 0} (R : A → Symbol → Type 0) (xs : List A) (i : ℕ) (ss ts : List Symbol) : Type 0 where
  pub source : A
  pub at : slice_get xs i ≡ Some source
  pub symbol : Symbol
  pub stands : R source symbol
  pub list : ts ≡ ss ++ symbol ∷ []

-- the first constants, and one more
pub record AreConstants (r : Reading) (old new : Run) (xs : List Content) (n : ℕ) (ss : List Symbol) : Type 0 where
  pub same : state_of r old ≡ state_of r new
  pub made : AreMade (Stands r.term) xs n ss

pub record OneConstant (r : Reading) (old new : Run) (xs : List Content) (i : ℕ) (ss ts : List Symbol) : Type 0 where
  pub same : state_of r old ≡ state_of r new
  pub more : OneMore (Stands r.term) xs i ss ts

-- the first elements recast, and one more
pub record AreCasts (r : Reading) (old new : Run) (b : Base) (xs : List Symbol) (n : ℕ) (ss : List Symbol) : Type 0 where
  pub same : state_of r old ≡ state_of r new
  pub made : AreMade (IsCast r.term b) xs n ss

pub record OneCast (r : Reading) (old new : Run) (b : Base) (xs : List Symbol) (i : ℕ) (ss ts : List Symbol) : Type 0 where
  pub same : state_of r old ≡ state_of r new
  pub more : OneMore (IsCast r.term b) xs i ss ts

-- the elements of a line, with the node that is 1 where it is defined
pub record IsLineWith (s : Run) (k d : ℕ) (ss : List Symbol) : Type 0 where
  pub line : Line
  pub stands : slice_get s.lines k ≡ Some line
  pub defined : line.defined ≡ d
  pub items : line.items.items ≡ ss
  pub whole : (t : ℕ → Term) → ReadsNodes t s.arena → AreWhole t d ss

-- the elements of an array, recast where a base is told
abbrev pub elements_cast : Option Base → Option (List Content) → Option (List Content)
elements_cast None v = v
elements_cast (Some b) v = option_map (map (recast b)) v
