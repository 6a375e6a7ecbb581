-- What a node is without a row, by its children's arguments.
use Rattle.std.specs.Prelude.{◌≡◌, ℤ, List, [], ◌∷◌, int_le, int_lt, Bool, true, false, not, Option, Some, None, IsSome}
use Rattle.std.specs.Ordering.{int_eq}
use Rattle.mz_interval.specs.Ends.{Ends, Encloses}
use Rattle.mz_arena.specs.declared.node.NodeKind.{NodeKind}
use Rattle.mz_arena.specs.declared.node.NodeKind.TheVariants as kinds
use Rattle.mz_arena.specs.Values as terms
use Rattle.mz_arena.specs.Extents.{Known, open_truth}
use Rattle.fz_program.specs.declared.row_name.Kind.TheVariants.{Bool as Truth}
use Rattle.fz_program.specs.Arguments.{Plain, bool, int, set, var, nested}
use Rattle.fz_program.specs.Values.{Values}
use Rattle.fz_program.specs.Flat.{Variable, AreInDomains, is_plain, number_of_truth, plain_value}
use Rattle.flat_reif_rows.specs.Standing.{seen, extent_over, term_over}
use Rattle.flat_reif_rows.specs.declared.fold.Fold.{Fold}
use Rattle.flat_reif_rows.specs.declared.fold.Fold.TheVariants.{Truth as Constant, First, Second, Row}

-- ---- comparisons

abbrev pub comparison : NodeKind → ℤ → ℤ → Bool
comparison kinds.Eq i j = int_eq i j
comparison kinds.Ne i j = not (int_eq i j)
comparison kinds.Le i j = int_le i j
comparison kinds.Lt i j = int_lt i j
comparison _ i j = false

abbrev pub is_comparison : NodeKind → Bool
is_comparison kinds.Eq = true
is_comparison kinds.Ne = true
is_comparison kinds.Le = true
is_comparison kinds.Lt = true
is_comparison _ = false

-- a comparison has this answer for all numbers in these ranges
pub record IsCompared (k : NodeKind) (e f : Ends) (b : Bool) : Type 0 where
  pub compares : is_comparison k ≡ true
  pub is : (i j : ℤ) → Encloses e i → Encloses f j → comparison k i j ≡ b

-- ---- connectives

-- the truth value that an argument is
abbrev pub truth_in : Plain → Option Bool
truth_in (bool b) = Some b
truth_in (int n) = None
truth_in (set s) = None
truth_in (var k) = None
truth_in nested = None

abbrev pub conjoined : Option Bool → Option Bool → Fold
conjoined (Some true) y = Second
conjoined (Some false) y = Constant false
conjoined None (Some true) = First
conjoined None (Some false) = Constant false
conjoined None None = Row

abbrev pub disjoined : Option Bool → Option Bool → Fold
disjoined (Some true) y = Constant true
disjoined (Some false) y = Second
disjoined None (Some true) = Constant true
disjoined None (Some false) = First
disjoined None None = Row

abbrev pub equated : Option Bool → Option Bool → Fold
equated (Some true) y = Second
equated (Some false) (Some b) = Constant (not b)
equated (Some false) None = Row
equated None (Some true) = First
equated None (Some false) = Row
equated None None = Row

abbrev pub fold_of_answer : Option Bool → Fold
fold_of_answer (Some b) = Constant b
fold_of_answer None = Row

-- ---- what the node is

-- a Boolean node over these arguments, and the argument that has its value in each solution
pub record IsSame (vs : List Variable) (k : NodeKind) (p q out : Plain) : Type 0 where
  pub opens : (x y : Known) → IsSome (extent_over k (x ∷ y ∷ [])) → extent_over k (x ∷ y ∷ []) ≡ open_truth
  pub sort : is_plain vs Truth out ≡ true
  pub value : (v : terms.Values) (f : Values) → AreInDomains vs f → term_over v k (p ∷ q ∷ []) f ≡ Some (seen (plain_value f out))

abbrev pub IsFold : List Variable → NodeKind → Plain → Plain → Fold → Type 0
IsFold vs k p q (Constant b) = IsSame vs k p q (bool b)
IsFold vs k p q First = IsSame vs k p q p
IsFold vs k p q Second = IsSame vs k p q q
IsFold vs k p q Row = Unit {0}

-- ---- of one constant child

abbrev pub IsNegated : Option Bool → Plain → Type 0
IsNegated None out = ⊥
IsNegated (Some b) out = out ≡ bool (not b)

abbrev pub IsCounted : Option Bool → Plain → Type 0
IsCounted None out = ⊥
IsCounted (Some b) out = out ≡ int (number_of_truth b)

abbrev pub IsFoldOfOne : NodeKind → Plain → Plain → Type 0
IsFoldOfOne kinds.Not p out = IsNegated (truth_in p) out
IsFoldOfOne kinds.ToInt p out = IsCounted (truth_in p) out
IsFoldOfOne k p out = ⊥
