-- ROOTS: the nodes that say that a variable has the value that it is declared with, and that a constraint is met.
use Rattle.std.specs.Prelude.{◌≡◌, ◌≢◌, ◌⊎◌, ℕ, Bool, true, false, List, [], ◌∷◌, ◌++◌, Option, Some, None, is_some, IsSome, slice_get, if◌then◌else◌}
use Rattle.std.specs.List.{list_all}
use Rattle.std.specs.Ordering.{int_eq}
use Rattle.mz_value.specs.Ranges.{Range}
use Rattle.mz_value.specs.Contents.{Content}
use Rattle.mz_value.specs.Contents as values
use Rattle.mz_core.specs.declared.types.Base.{Base}
use Rattle.mz_core.specs.declared.types.Base.TheVariants as base
use Rattle.mz_core.specs.Types.{PlainType}
use Rattle.mz_operations.specs.Sets.{same_set}
use Rattle.mz_arena.specs.Values.{Term, bit, as_number, is_true, comparison_term, set_comparison_term, and_term, or_term, not_term, iff_term}
use Rattle.mz_meaning.specs.Cells.{Cell, Mode, value_of, is_truth, typed}
use Rattle.mz_meaning.specs.Cells as cells
use Rattle.mz_instance.specs.Parts.{Sort, Whole, Truth, Subset, sort_of}
use Rattle.mz_symbol.specs.declared.types.Free.{Free}
use Rattle.mz_symbol.specs.declared.types.Line.{Line}
use Rattle.mz_symbol.specs.declared.types.Symbol.{Symbol}
use Rattle.mz_symbol.specs.Symbols.{value_by, symbol_value, elements_value}
use Rattle.mz_symbol.specs.Runs.{Run, IsRun}
use Rattle.mz_symbol.specs.Readings.{Reading, IsGiven, Reads}
use Rattle.mz_model_state.specs.Hands.{View, ParName, OnePlace, ManyPlaces, HeldName, HeldConstraint, AreOne, array_value, Iff, IsRootedName, IsRooted, AreRootedNames, AreRooted}
use Rattle.mz_model_state.specs.Loops.{ReadBack}

-- ---- tests of values

-- A TERM TESTS TWO VALUES: it is true where both are there, and are the same
abbrev pub TestsOne : Term → Option Content → Option Content → Type 0
TestsOne t x y = Iff (is_true t ≡ true) (AreOne x y)

-- integers, and cases of one enum: Eq
abbrev pub NumbersTested : Type 0
NumbersTested = (b : Base) (x y : Term) → sort_of b ≡ Whole → TestsOne (comparison_term int_eq x y) (value_by b x) (value_by b y)

-- sets: SetEq
abbrev pub SetsTested : Type 0
SetsTested = (b : Base) (x y : Term) → sort_of b ≡ Subset → TestsOne (set_comparison_term same_set x y) (value_by b x) (value_by b y)

-- Booleans, of which the first has a value: Iff, where the second is what its term is, true or not
abbrev pub TruthsTested : Type 0
TruthsTested = (x y : Term) → IsSome (value_by base.Bool x) → TestsOne (iff_term x y) (value_by base.Bool x) (Some (values.bool (is_true y)))

-- Booleans of which the second may be undefined, as an option's may: Iff, and a term that is true where the second has a value
abbrev pub GuardedTruthsTested : Type 0
GuardedTruthsTested = (d x y : Term) → is_true d ≡ is_some (as_number y) → IsSome (value_by base.Bool x) → TestsOne (and_term d (iff_term x y)) (value_by base.Bool x) (value_by base.Bool y)

-- the value of an option, from the term of its occurrence and that of its value
abbrev pub option_value : Base → Term → Term → Option Content
option_value b o x = if is_true o then value_by b x else Some values.absent

-- options, where a term tests the values of both: they are both absent, or both there and the same
abbrev pub OptionsTested : Type 0
OptionsTested = (b : Base) (o p x y t : Term) → (is_true o ≡ true → is_true p ≡ true → TestsOne t (value_by b x) (value_by b y)) → TestsOne (and_term (iff_term o p) (or_term (not_term o) t)) (option_value b o x) (option_value b p y)

-- the node that tests two values of a sort, and so two symbols of one base, both options or neither
abbrev pub equal_by : Sort → Term → Term → Term
equal_by Whole x y = comparison_term int_eq x y
equal_by Truth x y = iff_term x y
equal_by Subset x y = set_comparison_term same_set x y

abbrev pub equal_at : (ℕ → Term) → Sort → Option ℕ → ℕ → Option ℕ → ℕ → Term
equal_at t s None x None y = equal_by s (t x) (t y)
equal_at t s (Some o) x (Some p) y = and_term (iff_term (t o) (t p)) (or_term (not_term (t o)) (equal_by s (t x) (t y)))
equal_at t s o x p y = bit false

abbrev pub equal_term : (ℕ → Term) → Symbol → Symbol → Term
equal_term t x y = equal_at t (sort_of x.base) x.occurs x.term y.occurs y.term

-- where the first symbol has a value, and so has the second one's term if it is a Boolean's
abbrev pub SymbolsTested : Type 0
SymbolsTested = (t : ℕ → Term) (x y : Symbol) → x.base ≡ y.base → is_some x.occurs ≡ is_some y.occurs → (sort_of x.base ≡ Truth → IsSome (as_number (t y.term))) → IsSome (symbol_value t x) → TestsOne (equal_term t x y) (symbol_value t x) (symbol_value t y)

-- ---- a Boolean has a value under each reading with values, and it is what its term is, true or not

abbrev pub TruthsThere : Type 0
TruthsThere = (m : Mode) (is_name : Bool) (t : PlainType) (c : Cell) → IsGiven m → is_truth t ≡ true → value_of (typed m is_name t c) ≡ Some (values.bool (cells.is_true (value_of (typed m is_name t c))))

-- ---- roots of names

-- the root of a variable with a value: it tests the two, where the variable has a value
pub record IsPlaceRoot (s : Run) (n : HeldName) (f : Free) (v : View) (id : ℕ) : Type 0 where
  pub kind : n.kind ≡ OnePlace f
  pub value : n.value ≡ Some v
  pub roots : n.roots ≡ id ∷ []
  pub tests : (r : Reading) → IsGiven r.mode → Reads r s → IsSome (symbol_value r.term f.symbol) → TestsOne (r.term id) (symbol_value r.term f.symbol) (value_of (v r))

abbrev pub PlaceRoots : Type 0
PlaceRoots = (s : Run) (ns : List HeldName) (n : HeldName) (f : Free) (v : View) (id : ℕ) → IsPlaceRoot s n f v id → IsRootedName s (ns ++ n ∷ []) n

-- the root is the node that tests the variable's symbol and that of its value
pub record IsEqualRoot (s : Run) (n : HeldName) (f : Free) (v : View) (y : Symbol) (id : ℕ) : Type 0 where
  pub kind : n.kind ≡ OnePlace f
  pub value : n.value ≡ Some v
  pub roots : n.roots ≡ id ∷ []
  pub base : f.symbol.base ≡ y.base
  pub option : is_some f.symbol.occurs ≡ is_some y.occurs
  pub truth : sort_of f.symbol.base ≡ Truth → (r : Reading) → IsGiven r.mode → Reads r s → IsSome (as_number (r.term y.term))
  pub seen : (r : Reading) → IsGiven r.mode → Reads r s → value_of (v r) ≡ symbol_value r.term y
  pub root : (r : Reading) → Reads r s → r.term id ≡ equal_term r.term f.symbol y

abbrev pub EqualRoots : Type 0
EqualRoots = (s : Run) (ns : List HeldName) (n : HeldName) (f : Free) (v : View) (y : Symbol) (id : ℕ) → IsEqualRoot s n f v y id → IsRootedName s (ns ++ n ∷ []) n

-- the root of a Boolean is Iff, over a node that is true where the value is
pub record IsTruthRoot (s : Run) (n : HeldName) (f : Free) (v : View) (w id : ℕ) : Type 0 where
  pub kind : n.kind ≡ OnePlace f
  pub value : n.value ≡ Some v
  pub roots : n.roots ≡ id ∷ []
  pub truth : f.symbol.base ≡ base.Bool
  pub plain : f.symbol.occurs ≡ None
  pub there : (r : Reading) → IsGiven r.mode → Reads r s → value_of (v r) ≡ Some (values.bool (cells.is_true (value_of (v r))))
  pub seen : (r : Reading) → IsGiven r.mode → Reads r s → cells.is_true (value_of (v r)) ≡ is_true (r.term w)
  pub root : (r : Reading) → Reads r s → r.term id ≡ iff_term (r.term f.symbol.term) (r.term w)

abbrev pub TruthRoots : Type 0
TruthRoots = (s : Run) (ns : List HeldName) (n : HeldName) (f : Free) (v : View) (w id : ℕ) → IsTruthRoot s n f v w id → IsRootedName s (ns ++ n ∷ []) n

-- the root of an option of a Boolean, whose value may be undefined: a node is true where the value's own node has a value
pub record IsOptionTruthRoot (s : Run) (n : HeldName) (f : Free) (v : View) (o p d w id : ℕ) : Type 0 where
  pub kind : n.kind ≡ OnePlace f
  pub value : n.value ≡ Some v
  pub roots : n.roots ≡ id ∷ []
  pub truth : f.symbol.base ≡ base.Bool
  pub option : f.symbol.occurs ≡ Some o
  pub defined : (r : Reading) → IsGiven r.mode → Reads r s → is_true (r.term d) ≡ is_some (as_number (r.term w))
  pub seen : (r : Reading) → IsGiven r.mode → Reads r s → value_of (v r) ≡ option_value base.Bool (r.term p) (r.term w)
  pub root : (r : Reading) → Reads r s → r.term id ≡ and_term (iff_term (r.term o) (r.term p)) (or_term (not_term (r.term o)) (and_term (r.term d) (iff_term (r.term f.symbol.term) (r.term w))))

abbrev pub OptionTruthRoots : Type 0
OptionTruthRoots = (s : Run) (ns : List HeldName) (n : HeldName) (f : Free) (v : View) (o p d w id : ℕ) → IsOptionTruthRoot s n f v o p d w id → IsRootedName s (ns ++ n ∷ []) n

-- each of these terms tests a place, where it has a value, and the element at it
abbrev pub TestElements : (ℕ → Term) → List Free → List Symbol → List ℕ → Type 0
TestElements t [] [] [] = Unit {0}
TestElements t (f ∷ fs) (y ∷ ys) (i ∷ is) = (IsSome (symbol_value t f.symbol) → TestsOne (t i) (symbol_value t f.symbol) (symbol_value t y)) × TestElements t fs ys is
TestElements t fs ys is = ⊥

-- the roots of an array of variables with a value: that the value is defined, and one for each element
pub record AreArrayRoots (s : Run) (n : HeldName) (ix : List Range) (fs : List Free) (v : View) (defined : ℕ) (items : List Symbol) (ids : List ℕ) : Type 0 where
  pub kind : n.kind ≡ ManyPlaces ix fs
  pub value : n.value ≡ Some v
  pub roots : n.roots ≡ defined ∷ ids
  pub seen : (r : Reading) → IsGiven r.mode → Reads r s → value_of (v r) ≡ array_value ix (elements_value r.term defined items)
  pub tests : (r : Reading) → IsGiven r.mode → Reads r s → is_true (r.term defined) ≡ true → TestElements r.term fs items ids

abbrev pub ArrayRoots : Type 0
ArrayRoots = (s : Run) (ns : List HeldName) (n : HeldName) (ix : List Range) (fs : List Free) (v : View) (defined : ℕ) (items : List Symbol) (ids : List ℕ) → AreArrayRoots s n ix fs v defined items ids → IsRootedName s (ns ++ n ∷ []) n

-- the elements have the bases of the places, and are options where they are
abbrev pub AreAlike : List Free → List Symbol → Type 0
AreAlike [] [] = Unit {0}
AreAlike (f ∷ fs) (y ∷ ys) = ((f.symbol.base ≡ y.base) × (is_some f.symbol.occurs ≡ is_some y.occurs)) × AreAlike fs ys
AreAlike fs ys = ⊥

-- each of these nodes tests the symbols of a place and of the element at it
abbrev pub AreEqualTerms : (ℕ → Term) → List Free → List Symbol → List ℕ → Type 0
AreEqualTerms t [] [] [] = Unit {0}
AreEqualTerms t (f ∷ fs) (y ∷ ys) (i ∷ is) = (t i ≡ equal_term t f.symbol y) × AreEqualTerms t fs ys is
AreEqualTerms t fs ys is = ⊥

-- the roots of an array of variables whose value is an array of the run
pub record AreLineRoots (s : Run) (n : HeldName) (ix : List Range) (fs : List Free) (v : View) (k : ℕ) (l : Line) (ids : List ℕ) : Type 0 where
  pub kind : n.kind ≡ ManyPlaces ix fs
  pub value : n.value ≡ Some v
  pub roots : n.roots ≡ l.defined ∷ ids
  pub line : slice_get s.lines k ≡ Some l
  pub alike : AreAlike fs l.items.items
  pub seen : (r : Reading) → IsGiven r.mode → Reads r s → value_of (v r) ≡ array_value ix (r.line k)
  pub equal : (r : Reading) → Reads r s → AreEqualTerms r.term fs l.items.items ids

abbrev pub LineRoots : Type 0
LineRoots = (s : Run) (ns : List HeldName) (n : HeldName) (ix : List Range) (fs : List Free) (v : View) (k : ℕ) (l : Line) (ids : List ℕ) → IsRun s → AreLineRoots s n ix fs v k l ids → IsRootedName s (ns ++ n ∷ []) n

-- the root of a value that is undefined, whatever values there are: it is false
pub record IsFalseRoot (s : Run) (n : HeldName) (v : View) (id : ℕ) : Type 0 where
  pub variable : n.kind ≢ ParName
  pub value : n.value ≡ Some v
  pub roots : n.roots ≡ id ∷ []
  pub undefined : (r : Reading) → IsGiven r.mode → Reads r s → value_of (v r) ≡ None
  pub never : (r : Reading) → IsGiven r.mode → Reads r s → is_true (r.term id) ≡ false

abbrev pub FalseRoots : Type 0
FalseRoots = (s : Run) (ns : List HeldName) (n : HeldName) (v : View) (id : ℕ) → IsFalseRoot s n v id → IsRootedName s ns n

-- a par name, and a variable without a value, have no root
abbrev pub NoRoots : Type 0
NoRoots = (s : Run) (ns : List HeldName) (n : HeldName) → n.roots ≡ [] → (n.kind ≡ ParName) ⊎ (n.value ≡ None) → IsRootedName s ns n

-- ---- roots of constraints: one for each operand of a conjunction, and none where a constraint is par and true

abbrev pub are_all_true : Reading → List ℕ → Bool
are_all_true r ids = list_all (λ id. is_true (r.term id)) ids

abbrev pub ConstraintRoots : Type 0
ConstraintRoots = (s : Run) (c : HeldConstraint) → ((r : Reading) → IsGiven r.mode → Reads r s → cells.is_true (value_of (c.cell r)) ≡ are_all_true r c.roots) → IsRooted s c

-- ---- roots stay what they are as the run goes on, and one name or one constraint comes after the others

abbrev pub MoreRooted : Type 0
MoreRooted = (old new : Run) (ns : List HeldName) (n : HeldName) → ReadBack old new → AreRootedNames old ns ns → IsRootedName new (ns ++ n ∷ []) n → AreRootedNames new (ns ++ n ∷ []) (ns ++ n ∷ [])

abbrev pub RootedKept : Type 0
RootedKept = (old new : Run) (ns : List HeldName) → ReadBack old new → AreRootedNames old ns ns → AreRootedNames new ns ns

abbrev pub MoreMet : Type 0
MoreMet = (old new : Run) (cs : List HeldConstraint) (c : HeldConstraint) → ReadBack old new → AreRooted old cs → IsRooted new c → AreRooted new (cs ++ c ∷ [])

abbrev pub MetKept : Type 0
MetKept = (old new : Run) (cs : List HeldConstraint) → ReadBack old new → AreRooted old cs → AreRooted new cs
