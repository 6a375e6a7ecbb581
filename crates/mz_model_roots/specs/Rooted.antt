-- WHAT ROOTS SAY: that a name has its declared value, that a constraint is met, and what is minimized or maximized.
use Rattle.std.specs.Prelude.{◌≡◌, ℕ, List, [], ◌∷◌, ◌++◌, Option, Some, IsSome, Result}
use Rattle.mz_base.specs.declared.stop.Stop.{Stop}
use Rattle.mz_value.specs.Ranges.{Range}
use Rattle.mz_value.specs.Contents.{Content}
use Rattle.mz_meaning.specs.Runs.{give}
use Rattle.mz_symbol.specs.declared.types.Symbol.{Symbol}
use Rattle.mz_symbol.specs.Symbols.{symbol_value}
use Rattle.mz_symbol.specs.Runs.{Run}
use Rattle.mz_symbol.specs.Readings.{Reading, IsGiven, Reads}
use Rattle.mz_symbol.specs.Makes.{Means}
use Rattle.mz_symbol.specs.Arguments.{as_argument}
use Rattle.mz_eval_cells.specs.declared.types.Known.{Known}
use Rattle.mz_eval_cells.specs.declared.types.Known.TheVariants as known
use Rattle.mz_eval_cells.specs.Views.{seen}
use Rattle.mz_eval_symbols.specs.Taken.{ranges_in}
use Rattle.mz_model_state.specs.Hands.{View, NameKind, HeldName, HeldConstraint, IsRootedName, IsRooted}
use Rattle.mz_model_state.specs.Roots.{TestsOne}

-- no work is spent and no choice is taken, and nothing is refused
abbrev pub Stays : {A : Type 0} → Result A Stop → Run → Run → Type 0
Stays {A} x old new = Means {B = Unit {0}} (λ r (y : A). tt) x old new (λ r. give tt)

-- a cell, under each reading
abbrev pub view : Known → View
view k = λ r. seen r k

-- THE ROOTS OF A NAME of this kind with this value, whatever names were declared before it
pub record AreRootsOf (s : Run) (kind : NameKind) (v : View) (ids : List ℕ) : Type 0 where
  pub by : (ns : List HeldName) (n : HeldName) → n.kind ≡ kind → n.value ≡ Some v → n.roots ≡ ids → IsRootedName s (ns ++ n ∷ []) n

-- THE ROOTS OF A CONSTRAINT with this cell
pub record AreRootsOfConstraint (s : Run) (v : View) (ids : List ℕ) : Type 0 where
  pub by : (c : HeldConstraint) → c.cell ≡ v → c.roots ≡ ids → IsRooted s c

-- an array's value has these index ranges; nothing is asked of one without a shape
abbrev pub HasRanges : List Range → Known → Type 0
HasRanges ix (known.Unshaped d) = Unit {0}
HasRanges ix k = ranges_in k ≡ ix

-- a symbol's value, where a Boolean that is no option is false in place of undefined
abbrev pub own_argument : Reading → Symbol → Option Content
own_argument r s = as_argument s.base s.occurs (symbol_value r.term s)

-- A NODE TESTS WHETHER A SYMBOL, which has a value, has that of another
pub record IsEqualNode (s : Run) (x y : Symbol) (id : ℕ) : Type 0 where
  pub tests : (r : Reading) → IsGiven r.mode → Reads r s → IsSome (symbol_value r.term x) → TestsOne (r.term id) (symbol_value r.term x) (own_argument r y)
