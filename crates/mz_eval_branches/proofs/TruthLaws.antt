-- Booleans that may be undefined, by two nodes.
use Rattle.std.proofs.Common.{◌≡◌, ◌∙◌, ℕ, Bool, true, false, Option, Some, None, refl, sym, ap, arith, if◌then◌else◌}
use Rattle.mz_value.specs.Contents.{Content}
use Rattle.mz_value.specs.Contents as values
use Rattle.mz_core.specs.declared.types.Base.TheVariants as base
use Rattle.mz_arena.specs.Values.{Term, bit, if_term, is_true}
use Rattle.mz_meaning.specs.Cells as cells
use Rattle.mz_meaning.specs.Cells.{Mode, Blank, Given, held}
use Rattle.mz_symbol.specs.declared.types.Symbol.{Symbol}
use Rattle.mz_symbol.specs.Symbols.{symbol_value}
use Rattle.mz_symbol.specs.Runs.{Run}
use Rattle.mz_symbol.specs.Readings.{IsGiven, Reading}
use Rattle.mz_symbol.specs.Makes.{GoesOnBy}
use Rattle.mz_symbol.specs.Arguments.{as_argument, truth_of}
use Rattle.mz_symbol_rows.specs.RowValues.{argument}
use Rattle.mz_symbol_rows.proofs.GoingOn.{goes_both, goes_most}
use Rattle.mz_eval_cells.specs.Views.{truth_by}
use Rattle.mz_eval_arrays.specs.StepsBranches.{one_value}
use Rattle.mz_eval_arrays.proofs.BranchLaws.{truth_argument}
use Rattle.mz_eval_branches.specs.Truths.{IsNodeOf, truth_seen}
use Rattle.mz_eval_branches.proofs.NoValues.{held_none}

-- ---- one that is defined

defined_truth : (b : Bool) → Some (values.bool b) ≡ truth_by b true
defined_truth true = refl
defined_truth false = refl

truth_told : (m : Mode) (b : Bool) (v w : Option Content) → v ≡ held m (truth_of w) → (IsGiven m → b ≡ cells.is_true v) → v ≡ held m (truth_by b true)
truth_told (Blank n) b v w e f = e
truth_told (Given g) b v w e f = e ∙ defined_truth (cells.is_true w) ∙ ap (λ c. truth_by c true) (sym (f tt ∙ ap cells.is_true e))

pub node_told : (s : Symbol) → s.base ≡ base.Bool → s.occurs ≡ None → IsNodeOf s s.term
node_told s b o r =
    let v = symbol_value r.term s in
    truth_told r.mode (is_true (r.term s.term)) (argument r s) v (ap (held r.mode) (ap (λ x. as_argument x s.occurs v) b ∙ ap (λ x. as_argument base.Bool x v) o)) (truth_argument s b o r)

pub whole_told : (r : Reading) (v w : Option Content) (id one : ℕ) → v ≡ w → w ≡ held r.mode (truth_by (is_true (r.term id)) true) → bit true ≡ r.term one → v ≡ truth_seen r (id, one)
whole_told r v w id one e f g = e ∙ f ∙ ap (λ u. held r.mode (truth_by (is_true (r.term id)) (is_true u))) g

-- ---- one without a value

pub none_told : (r : Reading) (id : ℕ) → bit false ≡ r.term id → None ≡ truth_seen r (id, id)
none_told r id e = sym (held_none r.mode) ∙ ap (λ u. held r.mode (truth_by (is_true u) (is_true u))) e

-- ---- one of two

picked_by : (b : Bool) (x y u v : Term) → (if b then truth_by (is_true x) (is_true u) else truth_by (is_true y) (is_true v)) ≡ truth_by (is_true (if b then x else y)) (is_true (if b then u else v))
picked_by true x y u v = refl
picked_by false x y u v = refl

picked_truth : (c x y u v : Term) → (if is_true c then truth_by (is_true x) (is_true u) else truth_by (is_true y) (is_true v)) ≡ truth_by (is_true (if_term c x y)) (is_true (if_term c u v))
unfolding if_term
picked_truth c x y u v = picked_by (is_true c) x y u v

picked_held : (m : Mode) (b : Bool) (v w : Option Content) → held m (if b then held m v else held m w) ≡ held m (if b then v else w)
picked_held (Blank n) b v w = refl
picked_held (Given f) b v w = refl

pub picked_told : (r : Reading) (id : ℕ) (x y z : ℕ × ℕ) → if_term (r.term id) (r.term x.0) (r.term y.0) ≡ r.term z.0 → if_term (r.term id) (r.term x.1) (r.term y.1) ≡ r.term z.1 → one_value r id (truth_seen r x) (truth_seen r y) ≡ truth_seen r z
picked_told r id x y z e f =
    picked_held r.mode (is_true (r.term id)) (truth_by (is_true (r.term x.0)) (is_true (r.term x.1))) (truth_by (is_true (r.term y.0)) (is_true (r.term y.1)))
    ∙ ap (held r.mode) (picked_truth (r.term id) (r.term x.0) (r.term y.0) (r.term x.1) (r.term y.1))
    ∙ ap (λ u. held r.mode (truth_by (is_true u) (is_true (if_term (r.term id) (r.term x.1) (r.term y.1))))) e
    ∙ ap (λ u. held r.mode (truth_by (is_true (r.term z.0)) (is_true u))) f

-- ---- what it costs

pub goes_nodes : (old mid new : Run) → GoesOnBy 16 old mid → GoesOnBy 16 mid new → GoesOnBy 32 old new
goes_nodes old mid new f g = goes_both 16 16 old mid new f g

pub goes_first : (old new : Run) → GoesOnBy 16 old new → GoesOnBy 32 old new
goes_first old new f = goes_most 16 32 old new (omega arith) f

pub goes_none : (old new : Run) → GoesOnBy 0 old new → GoesOnBy 8 old new
goes_none old new f = goes_most 0 8 old new (omega arith) f

pub goes_whole : (old mid new : Run) → GoesOnBy 8 old mid → GoesOnBy 0 mid new → GoesOnBy 8 old new
goes_whole old mid new f g = goes_both 8 0 old mid new f g
