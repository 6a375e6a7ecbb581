-- Accesses to lists: the arguments of a list's elements, and a variable that stands for an access.
use Rattle.std.specs.Prelude.{ℤ, ◌≡◌, ◌≤ℤ◌, ◌≤◌, ℕ, pos, List, [], ◌∷◌, length, true, Option, Some, None, Bool, false}
use Rattle.mz_value.specs.Ranges.{Range}
use Rattle.mz_interval.specs.Ends.{Ends}
use Rattle.mz_arena.specs.declared.node.NodeKind.TheVariants as kinds
use Rattle.mz_arena.specs.Values as terms
use Rattle.mz_arena.specs.Values.{Term, cons_term}
use Rattle.mz_arena.specs.Terms.{kind_term}
use Rattle.mz_arena.specs.Extents.{Known, whole, wholes, truths, subsets}
use Rattle.fz_program.specs.declared.row_name.RowName.{RowName}
use Rattle.fz_program.specs.declared.row_name.RowName.TheVariants as rows
use Rattle.fz_program.specs.declared.row_name.Kind.TheVariants.{Int, Bool as Truth}
use Rattle.fz_program.specs.Arguments.{Plain, bool, int, set, var, nested, Argument, array}
use Rattle.fz_program.specs.Values.{Values}
use Rattle.fz_program.specs.Flat.{Variable, Program, FlatSolves, is_plain, plain_value}
use Rattle.fz_build.specs.Build.{IsOver}
use Rattle.fz_build.specs.Growth.{Grows}
use Rattle.fz_build.specs.Bounds.{ends_of}
use Rattle.flat_reif_rows.specs.Standing.{seen, LiesWithin, IsPartOf, Suits, of_kind, extent_over}
use Rattle.flat_reif_rows.specs.Making.{GoesOnMade}

-- ---- the elements

-- element by element, within the bounds of the list's
abbrev pub AllWhole : List Variable → List Plain → List Ends → Type 0
AllWhole vs [] [] = Unit {0}
AllWhole vs (p ∷ ps) (e ∷ es) = LiesWithin Int vs p e × AllWhole vs ps es
AllWhole vs _ _ = ⊥

abbrev pub AllTruth : List Variable → List Plain → Type 0
AllTruth vs [] = Unit {0}
AllTruth vs (p ∷ ps) = (is_plain vs Truth p ≡ true) × AllTruth vs ps

abbrev pub AllSubset : List Variable → List Plain → List (List Range) → Type 0
AllSubset vs [] [] = Unit {0}
AllSubset vs (p ∷ ps) (u ∷ us) = IsPartOf vs p u × AllSubset vs ps us
AllSubset vs _ _ = ⊥

-- arguments for the elements of a list, which isn't empty
abbrev pub AreElements : List Variable → List Plain → Known → Type 0
AreElements vs ps (Some (wholes es)) = AllWhole vs ps es
AreElements vs ps (Some truths) = AllTruth vs ps
AreElements vs ps (Some (subsets us)) = AllSubset vs ps us
AreElements vs ps _ = ⊥

-- the row of an access to a list of such bounds
abbrev pub element_row : Known → Option RowName
element_row (Some (wholes es)) = Some rows.ArrayVarIntElement
element_row (Some truths) = Some rows.ArrayVarBoolElement
element_row (Some (subsets us)) = Some rows.ArrayVarSetElement
element_row _ = None

-- the row where all elements are constant
abbrev pub fixed_row : RowName → RowName
fixed_row rows.ArrayVarIntElement = rows.ArrayIntElement
fixed_row rows.ArrayVarBoolElement = rows.ArrayBoolElement
fixed_row rows.ArrayVarSetElement = rows.ArraySetElement
fixed_row name = name

abbrev pub is_fixed : Plain → Bool
is_fixed (bool b) = true
is_fixed (int n) = true
is_fixed (set s) = true
is_fixed (var k) = false
is_fixed nested = false

abbrev pub chosen_row : Bool → RowName → RowName
chosen_row true name = fixed_row name
chosen_row false name = name

abbrev pub element_inputs : Argument → List Plain → List Argument
element_inputs i ps = i ∷ array ps ∷ []

-- an index between these ends may be a place of a list of n elements, from 1
pub record Reaches (e : Ends) (n : ℕ) : Type 0 where
  pub from : e.0 ≤ℤ pos n
  pub to : pos 1 ≤ℤ e.1
  pub some : 1 ≤ n

-- no index between these ends is a place
pub record ReachesNone (e : Ends) (n : ℕ) : Type 0 where
  pub none : (i : ℤ) → e.0 ≤ℤ i → i ≤ℤ e.1 → pos 1 ≤ℤ i → i ≤ℤ pos n → ⊥

-- an index and elements of this row, which lie within the bounds of an index and a list
pub record AreAccessed (vs : List Variable) (name : RowName) (i : Plain) (ps : List Plain) : Type 0 where
  pub index : Ends
  pub inside : LiesWithin Int vs i index
  pub list : Known
  pub elements : AreElements vs ps list
  pub row : element_row list ≡ Some name
  pub reaches : Reaches (ends_of vs i) (length ps)

-- ---- the access

-- the term of a list, by the values of its elements' arguments
abbrev pub list_term : Values → List Plain → Term
list_term f [] = Some terms.empty
list_term f (p ∷ ps) = cons_term (Some (seen (plain_value f p))) (list_term f ps)

abbrev pub access_over : terms.Values → Plain → List Plain → Values → Term
access_over v i ps f = kind_term v (of_kind kinds.Access) kinds.Access (Some (seen (plain_value f i)) ∷ list_term f ps ∷ [])

-- the index is a place
pub record HasElement (v : terms.Values) (i : Plain) (ps : List Plain) (f : Values) : Type 0 where
  pub result : terms.Val
  pub is : access_over v i ps f ≡ Some result

-- `out` stands for an access with this index to the list of these arguments: it equals the access's term in each solution, and lies within its bounds.
pub record MakesAccess (old new : Program) (name : RowName) (i : Plain) (ps : List Plain) (out : Plain) : Type 0 where
  pub grows : (v : terms.Values) → Grows old new (HasElement v i ps)
  pub place : IsOver (length new.vars) out
  pub suits : (e : Ends) (list : Known) → LiesWithin Int old.vars i e → AreElements old.vars ps list → element_row list ≡ Some name → Suits new.vars out (extent_over kinds.Access (Some (whole e) ∷ list ∷ []))
  pub value : (v : terms.Values) (f : Values) → FlatSolves new f → access_over v i ps f ≡ Some (seen (plain_value f out))
  pub made : GoesOnMade old new
