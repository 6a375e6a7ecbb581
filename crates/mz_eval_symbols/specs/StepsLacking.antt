-- Mirror of src/lacking.rt; private clauses only.
use Rattle.std.specs.Prelude.{◌≡◌, ℕ, ℤ, Bool, true, false, List, [], ◌∷◌, Some, None, slice_get}
use Rattle.std.specs.Option.{option_map}
use Rattle.mz_core.specs.declared.types.Base.{Base}
use Rattle.mz_core.specs.declared.types.Base.TheVariants as base
use Rattle.mz_arena.specs.Entries.{Entry}
use Rattle.mz_arena.specs.Values.{Term, as_number, as_numbers, is_one, is_true}
use Rattle.mz_meaning.specs.Coerced.{recast_all}
use Rattle.mz_symbol.specs.declared.types.Symbol.{Symbol}
use Rattle.mz_symbol.specs.Runs.{ReadsNodes}
use Rattle.mz_symbol_rows.specs.RowValues.{is_single}
use Rattle.mz_eval_symbols.specs.declared.lacking.Claim.{Claim}
use Rattle.mz_eval_symbols.specs.declared.lacking.Claim.TheVariants as claim
use Rattle.mz_eval_symbols.specs.declared.lacking.Reason.{Reason}
use Rattle.mz_eval_symbols.specs.declared.lacking.Reason.TheVariants as reason
use Rattle.mz_eval_symbols.specs.Steps.{IsCast, argued}

-- where the first node is true, the second is no number
abbrev pub Lacks : List Entry → ℕ → ℕ → Type 0
Lacks es o x = (t : ℕ → Term) → ReadsNodes t es → is_true (t o) ≡ true → as_number (t x) ≡ None

-- none of these is 1
abbrev pub HasNoOne : List ℤ → Type 0
HasNoOne ns = (k : ℕ) → is_one (slice_get ns k) ≡ false

-- where two lists are there, none of the first one's numbers is 1
abbrev pub ListsLack : List Entry → ℕ → ℕ → Type 0
ListsLack es o x = (t : ℕ → Term) → ReadsNodes t es → (ns ms : List ℤ) → as_numbers (t o) ≡ Some ns → as_numbers (t x) ≡ Some ms → HasNoOne ns

abbrev pub Holds : List Entry → Claim → Type 0
Holds es (claim.Nodes o x) = Lacks es o x
Holds es (claim.Lists o x) = ListsLack es o x

-- a claim follows from what a reason has
abbrev pub Suffices : List Entry → Claim → Reason → Type 0
Suffices es c reason.Sure = Holds es c
Suffices es c (reason.One d) = Holds es d → Holds es c
Suffices es c (reason.Two d e) = Holds es d → Holds es e → Holds es c
Suffices es c reason.Unknown = Unit {0}

abbrev pub AllHold : List Entry → List Claim → Type 0
AllHold es [] = Unit {0}
AllHold es (c ∷ cs) = Holds es c × AllHold es cs

-- an option that has no value where it occurs
pub record IsLacking (es : List Entry) (s : Symbol) : Type 0 where
  pub single : is_single s.base ≡ true
  pub occurs : ℕ
  pub at : s.occurs ≡ Some occurs
  pub lacks : Lacks es occurs s.term

-- a symbol that stands for the same value, which recasting leaves as it is
pub record IsAlike (t : ℕ → Term) (s x : Symbol) : Type 0 where
  pub same : argued t x ≡ argued t s
  pub argument : (b : Base) → argued t x ≡ option_map (recast_all b) (argued t s)
  pub cast : (b : Base) → IsCast t b s x

-- an element that stands for the same value
abbrev pub IsSameItem : (ℕ → Term) → Symbol → Symbol → Type 0
IsSameItem t = IsCast t base.Bottom

-- a symbol that stands for the same value, as an element too
pub record IsFitted (t : ℕ → Term) (s x : Symbol) : Type 0 where
  pub same : argued t x ≡ argued t s
  pub item : IsCast t base.Bottom s x

abbrev pub IsRelabel : List Entry → Symbol → Symbol → Type 0
IsRelabel es s x = (t : ℕ → Term) → ReadsNodes t es → IsAlike t s x

-- of a number, and no option
abbrev pub is_number_base : Base → Bool
is_number_base base.Int = true
is_number_base (base.Enum e) = true
is_number_base b = false
