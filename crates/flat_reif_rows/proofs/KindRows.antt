-- The rows of the tables fit their kinds of nodes.
use Rattle.std.proofs.Common.{◌≡◌, [], ◌∷◌, Some, subst}
use Rattle.mz_operations.specs.declared.row.Arith.TheVariants as arith_row
use Rattle.mz_operations.specs.declared.row.SetOp.TheVariants as set_op
use Rattle.mz_arena.specs.declared.node.NodeKind.{NodeKind}
use Rattle.mz_arena.specs.declared.node.NodeKind.TheVariants as kinds
use Rattle.fz_program.specs.declared.row_name.RowName.{RowName}
use Rattle.fz_program.specs.declared.row_name.RowName.TheVariants as rows
use Rattle.fz_program.specs.Arguments.{Plain, one}
use Rattle.fz_build.specs.Bounds.{ends_of}
use Rattle.flat_reif_rows.specs.NodeRows.{row_of_one, row_of_two, inputs_of_two, HasDivisor}
use Rattle.flat_reif_rows.proofs.Sorts.{of_integer, of_truth, of_set}
use Rattle.flat_reif_rows.proofs.Given.{RowFits, Always}
use Rattle.flat_reif_rows.proofs.TruthRows.{truth_row, row_Eq, row_Ne, row_Le, row_Lt, row_And, row_Or, row_Iff, row_Member, row_SetEq, row_Subset}
use Rattle.flat_reif_rows.proofs.OtherRows.{row_not, row_flag}
use Rattle.flat_reif_rows.proofs.NumberRows.{arith_row as number_row, row_Mul, row_Div, row_Mod, row_abs, row_card}
use Rattle.flat_reif_rows.proofs.SetRows.{set_row, row_Union, row_Intersect, row_Diff, row_Symdiff}

same_row : (r name : RowName) → Some r ≡ Some name → r ≡ name
same_row r name h = cc

abbrev One : NodeKind → Plain → RowName → Type 0
One k a r = RowFits k r (a ∷ []) (one a ∷ []) Always

pub fits_one : (k : NodeKind) (name : RowName) → row_of_one k ≡ Some name → (a : Plain) → RowFits k name (a ∷ []) (one a ∷ []) Always
fits_one kinds.Not name h a = subst (One kinds.Not a) (same_row rows.BoolNot name h) (row_not a)
fits_one kinds.ToInt name h a = subst (One kinds.ToInt a) (same_row rows.BoolToInt name h) (row_flag a)
fits_one kinds.Abs name h a = subst (One kinds.Abs a) (same_row rows.IntAbs name h) (row_abs a)
fits_one kinds.Card name h a = subst (One kinds.Card a) (same_row rows.SetCard name h) (row_card a)
fits_one _ name h a = absurd (cc)

abbrev Two : NodeKind → Plain → Plain → RowName → Type 0
Two k a b r = RowFits k r (a ∷ b ∷ []) (inputs_of_two k (one a) (one b)) (λ vs. HasDivisor k (ends_of vs b))

pub fits_two : (k : NodeKind) (name : RowName) → row_of_two k ≡ Some name → (a b : Plain) → RowFits k name (a ∷ b ∷ []) (inputs_of_two k (one a) (one b)) (λ vs. HasDivisor k (ends_of vs b))
fits_two kinds.Eq name h a b = subst (Two kinds.Eq a b) (same_row rows.IntEqReif name h) (truth_row kinds.Eq rows.IntEqReif of_integer of_integer row_Eq a b)
fits_two kinds.Ne name h a b = subst (Two kinds.Ne a b) (same_row rows.IntNeReif name h) (truth_row kinds.Ne rows.IntNeReif of_integer of_integer row_Ne a b)
fits_two kinds.Le name h a b = subst (Two kinds.Le a b) (same_row rows.IntLeReif name h) (truth_row kinds.Le rows.IntLeReif of_integer of_integer row_Le a b)
fits_two kinds.Lt name h a b = subst (Two kinds.Lt a b) (same_row rows.IntLtReif name h) (truth_row kinds.Lt rows.IntLtReif of_integer of_integer row_Lt a b)
fits_two kinds.And name h a b = subst (Two kinds.And a b) (same_row rows.ArrayBoolAnd name h) (truth_row kinds.And rows.ArrayBoolAnd of_truth of_truth row_And a b)
fits_two kinds.Or name h a b = subst (Two kinds.Or a b) (same_row rows.ArrayBoolOr name h) (truth_row kinds.Or rows.ArrayBoolOr of_truth of_truth row_Or a b)
fits_two kinds.Iff name h a b = subst (Two kinds.Iff a b) (same_row rows.BoolEqReif name h) (truth_row kinds.Iff rows.BoolEqReif of_truth of_truth row_Iff a b)
fits_two kinds.Member name h a b = subst (Two kinds.Member a b) (same_row rows.SetInReif name h) (truth_row kinds.Member rows.SetInReif of_integer of_set row_Member a b)
fits_two kinds.SetEq name h a b = subst (Two kinds.SetEq a b) (same_row rows.SetEqReif name h) (truth_row kinds.SetEq rows.SetEqReif of_set of_set row_SetEq a b)
fits_two kinds.Subset name h a b = subst (Two kinds.Subset a b) (same_row rows.SetSubsetReif name h) (truth_row kinds.Subset rows.SetSubsetReif of_set of_set row_Subset a b)
fits_two kinds.Mul name h a b = subst (Two kinds.Mul a b) (same_row rows.IntTimes name h) (number_row kinds.Mul rows.IntTimes arith_row.Mul row_Mul a b)
fits_two kinds.Div name h a b = subst (Two kinds.Div a b) (same_row rows.IntDiv name h) (number_row kinds.Div rows.IntDiv arith_row.Div row_Div a b)
fits_two kinds.Mod name h a b = subst (Two kinds.Mod a b) (same_row rows.IntMod name h) (number_row kinds.Mod rows.IntMod arith_row.Mod row_Mod a b)
fits_two kinds.Union name h a b = subst (Two kinds.Union a b) (same_row rows.SetUnion name h) (set_row kinds.Union rows.SetUnion set_op.Union row_Union a b)
fits_two kinds.Intersect name h a b = subst (Two kinds.Intersect a b) (same_row rows.SetIntersect name h) (set_row kinds.Intersect rows.SetIntersect set_op.Intersect row_Intersect a b)
fits_two kinds.Diff name h a b = subst (Two kinds.Diff a b) (same_row rows.SetDiff name h) (set_row kinds.Diff rows.SetDiff set_op.Diff row_Diff a b)
fits_two kinds.Symdiff name h a b = subst (Two kinds.Symdiff a b) (same_row rows.SetSymdiff name h) (set_row kinds.Symdiff rows.SetSymdiff set_op.Symdiff row_Symdiff a b)
fits_two _ name h a b = absurd (cc)
