-- SYMBOLS: what stands for the value of a var cell, and what such a value is, once the ids of nodes have terms.
use Rattle.std.specs.Prelude.{◌≡◌, ℕ, ◌+◌, Bool, true, List, [], ◌∷◌, length, map, Option, Some, None, is_some, IsSome, if◌then◌else◌}
use Rattle.std.specs.List.{flat_map}
use Rattle.std.specs.Option.{option_map, option_and_then}
use Rattle.mz_value.specs.Contents.{Content}
use Rattle.mz_value.specs.Contents as values
use Rattle.mz_core.specs.declared.types.Base.{Base}
use Rattle.mz_core.specs.declared.types.Base.TheVariants as base
use Rattle.mz_arena.specs.Entries.{Entry}
use Rattle.mz_arena.specs.Values.{Term, empty, as_number, as_set, bit, is_true, cons_term}
use Rattle.mz_meaning.specs.Domains.{Domain}
use Rattle.mz_symbol.specs.declared.types.Symbol.{Symbol}
use Rattle.mz_symbol.specs.declared.types.Free.{Free}
use Rattle.mz_symbol.specs.declared.types.Lists.{Lists}
use Rattle.mz_symbol.specs.declared.types.Listing.{Listing}
use Rattle.mz_symbol.specs.declared.types.Listing.TheVariants as listing
use Rattle.mz_symbol.specs.declared.types.Line.{Line}
pub use Rattle.mz_instance.specs.Contents.{content_by, is_one}
use Rattle.mz_instance.specs.Parts.{AreNodes}
use Rattle.mz_symbol.specs.Choices.{domain_parts}

-- the node of an occurrence stands before that of the value
abbrev pub with_id : Option ℕ → List ℕ → List ℕ
with_id None is = is
with_id (Some o) is = o ∷ is

abbrev pub symbol_ids : Symbol → List ℕ
symbol_ids s = with_id s.occurs (s.term ∷ [])

-- the value of a base that a term stands for
abbrev pub value_by : Base → Term → Option Content
value_by base.SetInt t = option_map (λ s. values.set None s) (as_set t)
value_by (base.SetEnum e) t = option_map (λ s. values.set (Some e) s) (as_set t)
value_by b t = option_map (λ n. content_by b n []) (as_number t)

-- AN OPTION HAS THREE STATES: it is absent where its occurrence isn't true, and else its value is there or undefined. So what is undefined occurs
abbrev pub value_at : (ℕ → Term) → Base → Option ℕ → ℕ → Option Content
value_at t b None id = value_by b (t id)
value_at t b (Some o) id = if is_true (t o) then value_by b (t id) else Some values.absent

abbrev pub symbol_value : (ℕ → Term) → Symbol → Option Content
symbol_value t s = value_at t s.base s.occurs s.term

-- ---- choices

abbrev pub domain_of : Free → Domain
domain_of f = record { base = f.symbol.base; opt = is_some f.symbol.occurs; set = f.set }

-- the ids of their nodes, in order
abbrev pub free_ids : List Free → List ℕ
free_ids fs = flat_map (λ f. symbol_ids f.symbol) fs

-- A SYMBOL OF THIS DOMAIN, whose nodes are choices, or variables, with the numbers from k on
pub record IsSymbolOf (es : List Entry) (choice : Bool) (k : ℕ) (d : Domain) (s : Symbol) : Type 0 where
  pub base : s.base ≡ d.base
  pub option : is_some s.occurs ≡ d.opt
  pub nodes : AreNodes es choice k (symbol_ids s) (domain_parts d)

-- ---- the elements of var arrays

-- the values, where each is there
abbrev pub all_there : List (Option Content) → Option (List Content)
all_there [] = Some []
all_there (None ∷ xs) = None
all_there (Some x ∷ xs) = option_map (λ ys. x ∷ ys) (all_there xs)

-- the values of an array's elements, where it is defined and each is there
abbrev pub elements_value : (ℕ → Term) → ℕ → List Symbol → Option (List Content)
elements_value t d ss = option_and_then (λ xs. if is_true (t d) then Some xs else None) (all_there (map (symbol_value t) ss))

abbrev pub line_value : (ℕ → Term) → Line → Option (List Content)
line_value t l = elements_value t l.defined l.items.items

-- an occurrence has a value
abbrev pub IsOccurrence : (ℕ → Term) → Option ℕ → Type 0
IsOccurrence t None = Unit {0}
IsOccurrence t (Some o) = IsSome (as_number (t o))

-- an element's nodes have values, that of an absent one too
pub record IsItem (t : ℕ → Term) (s : Symbol) : Type 0 where
  pub value : IsSome (value_by s.base (t s.term))
  pub occurs : IsOccurrence t s.occurs

abbrev pub AreItems : (ℕ → Term) → List Symbol → Type 0
AreItems t [] = Unit {0}
AreItems t (s ∷ ss) = IsItem t s × AreItems t ss

-- where an array is defined, each of its elements is there
abbrev pub AreWhole : (ℕ → Term) → ℕ → List Symbol → Type 0
AreWhole t d ss = is_true (t d) ≡ true → AreItems t ss

-- the list of these nodes
unfoldable pub list_term : (ℕ → Term) → List ℕ → Term
list_term t [] = Some empty
list_term t (i ∷ is) = cons_term (t i) (list_term t is)

abbrev pub item_terms : List Symbol → List ℕ
item_terms ss = map (λ s. s.term) ss

-- what is no option occurs
abbrev pub occurs_term : (ℕ → Term) → Option ℕ → Term
occurs_term t None = bit true
occurs_term t (Some o) = t o

-- the list of the elements' occurrences
unfoldable pub occurs_list : (ℕ → Term) → List Symbol → Term
occurs_list t [] = Some empty
occurs_list t (s ∷ ss) = cons_term (occurs_term t s.occurs) (occurs_list t ss)

-- no element is an option
abbrev pub ArePlain : List Symbol → Type 0
ArePlain [] = Unit {0}
ArePlain (s ∷ ss) = (s.occurs ≡ None) × ArePlain ss

abbrev pub IsOccursList : (ℕ → Term) → List Symbol → Option ℕ → Type 0
IsOccursList t ss None = ArePlain ss
IsOccursList t ss (Some id) = t id ≡ occurs_list t ss

-- all elements are of this base
abbrev pub HaveBase : Base → List Symbol → Type 0
HaveBase b [] = Unit {0}
HaveBase b (s ∷ ss) = (s.base ≡ b) × HaveBase b ss

-- the lists of the elements' values, and of options the list of their occurrences
pub record AreLists (t : ℕ → Term) (ss : List Symbol) (ls : Lists) : Type 0 where
  pub bases : HaveBase ls.base ss
  pub terms : t ls.terms ≡ list_term t (item_terms ss)
  pub occurs : IsOccursList t ss ls.occurs

abbrev pub IsListing : (ℕ → Term) → List Symbol → Listing → Type 0
IsListing t ss (listing.Made ls) = AreLists t ss ls
IsListing t ss l = Unit {0}

pub record IsLine (t : ℕ → Term) (l : Line) : Type 0 where
  pub whole : AreWhole t l.defined l.items.items
  pub listed : IsListing t l.items.items l.listing

-- how many elements have no list yet
abbrev pub waiting_in : Listing → ℕ → ℕ
waiting_in listing.Wanted n = n
waiting_in l n = 0

unfoldable pub waiting : List Line → ℕ
waiting [] = 0
waiting (l ∷ ls) = waiting_in l.listing (length l.items.items) + waiting ls
