-- A variable that stands for two branches under a condition.
use Rattle.std.specs.Prelude.{◌≡◌, List, [], ◌∷◌, length, Option, Some, None, IsSome as IsThere}
use Rattle.mz_operations.specs.Bounds as bounds
use Rattle.mz_arena.specs.declared.node.NodeKind.TheVariants as kinds
use Rattle.mz_arena.specs.Values as terms
use Rattle.mz_arena.specs.Extents.{Known, whole, truth, subset}
use Rattle.fz_program.specs.declared.row_name.RowName.{RowName}
use Rattle.fz_program.specs.declared.row_name.RowName.TheVariants as rows
use Rattle.fz_program.specs.declared.row_name.Kind.TheVariants.{Bool as Truth}
use Rattle.fz_program.specs.Arguments.{Plain}
use Rattle.fz_program.specs.Values.{Values}
use Rattle.fz_program.specs.Flat.{Variable, Program, FlatSolves, plain_value}
use Rattle.fz_build.specs.Build.{IsOver}
use Rattle.fz_build.specs.Growth.{Grows}
use Rattle.flat_reif_rows.specs.Standing.{seen, LiesWithin, Suits, extent_over, term_over}
use Rattle.flat_reif_rows.specs.Elements.{AreElements, element_row}
use Rattle.flat_reif_rows.specs.Making.{GoesOnMade, HasValue}

-- the row of an access to a list of such branches
abbrev pub branch_row : Known → Option RowName
branch_row (Some (whole e)) = Some rows.ArrayVarIntElement
branch_row (Some (truth e)) = Some rows.ArrayVarBoolElement
branch_row (Some (subset u)) = Some rows.ArrayVarSetElement
branch_row _ = None

-- a condition and two branches of one sort, which is this row's: the branch of a false condition is the first of their list
pub record AreBranches (vs : List Variable) (name : RowName) (c y z : Plain) : Type 0 where
  pub condition : LiesWithin Truth vs c bounds.truth
  pub list : Known
  pub elements : AreElements vs (z ∷ y ∷ []) list
  pub row : element_row list ≡ Some name

-- `out` stands for the branches: it equals the node's term in each solution, and lies within its bounds
pub record MakesBranch (old new : Program) (name : RowName) (c y z out : Plain) : Type 0 where
  pub grows : (v : terms.Values) → Grows old new (HasValue v kinds.If (c ∷ y ∷ z ∷ []))
  pub place : IsOver (length new.vars) out
  pub suits : (x e f : Known) → Suits old.vars y e → Suits old.vars z f → branch_row e ≡ Some name → IsThere (extent_over kinds.If (x ∷ e ∷ f ∷ [])) → Suits new.vars out (extent_over kinds.If (x ∷ e ∷ f ∷ []))
  pub value : (v : terms.Values) (f : Values) → FlatSolves new f → term_over v kinds.If (c ∷ y ∷ z ∷ []) f ≡ Some (seen (plain_value f out))
  pub made : GoesOnMade old new
