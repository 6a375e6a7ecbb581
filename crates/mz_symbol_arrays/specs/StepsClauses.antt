-- Mirror of src/clauses.rt; private clauses only.
use Rattle.std.specs.Prelude.{◌≡◌, ℕ, Bool, true, false, not, ◌||◌, ◌&&◌, List, map, is_some, Option, Some, slice_get}
use Rattle.std.specs.List.{list_all}
use Rattle.mz_value.specs.Contents.{Content}
use Rattle.mz_value.specs.Contents as values
use Rattle.mz_core.specs.declared.types.Base.{Base}
use Rattle.mz_core.specs.declared.types.Base.TheVariants as base
use Rattle.mz_operations.specs.declared.row.Quantifier.{Quantifier}
use Rattle.mz_operations.specs.declared.row.Quantifier.TheVariants.{Forall, Exists}
use Rattle.mz_operations.specs.Numbers.{quantified, quantifier_start}
use Rattle.mz_operations.specs.Arrays.{fold_from}
use Rattle.mz_operations.specs.Views.{as_bool}
use Rattle.mz_arena.specs.Values as terms
use Rattle.mz_symbol.specs.declared.types.Symbol.{Symbol}
use Rattle.mz_symbol.specs.declared.types.Line.{Line}
use Rattle.mz_symbol.specs.Symbols.{symbol_value}
use Rattle.mz_symbol.specs.Runs.{Run}
use Rattle.mz_symbol.specs.Readings.{Reading, IsGiven, state_of}

abbrev pub is_bool : Base → Bool
is_bool base.Bool = true
is_bool b = false

abbrev pub is_truth : Symbol → Bool
is_truth s = not (is_some s.occurs) && is_bool s.base

-- the elements of an array are truth values, and no options
pub record AreTruths (s : Run) (k : ℕ) : Type 0 where
  pub line : Line
  pub stands : slice_get s.lines k ≡ Some line
  pub truths : list_all is_truth line.items.items ≡ true

abbrev pub bools_of : List Bool → List Content
bools_of bs = map (λ b. values.bool b) bs

-- the fold of truth values
abbrev pub over : Quantifier → List Bool → Option Bool
over op bs = fold_from as_bool (quantified op) (quantifier_start op) (bools_of bs)

-- a quantifier over an array of truth values
pub record Asks (r : Reading) (old new : Run) (op : Quantifier) (k : ℕ) (s : Symbol) : Type 0 where
  pub same : state_of r old ≡ state_of r new
  pub told : IsGiven r.mode → (bs : List Bool) (b : Bool) → r.line k ≡ Some (bools_of bs) → over op bs ≡ Some b → symbol_value r.term s ≡ Some (values.bool b)

pub record Joins (r : Reading) (old new : Run) (k l : ℕ) (s : Symbol) : Type 0 where
  pub same : state_of r old ≡ state_of r new
  pub told : IsGiven r.mode → (bs cs : List Bool) (a b : Bool) → r.line k ≡ Some (bools_of bs) → r.line l ≡ Some (bools_of cs) → over Exists bs ≡ Some a → over Forall cs ≡ Some b → symbol_value r.term s ≡ Some (values.bool (a || not b))

-- whether two nodes are true
pub record AreTrue (r : Reading) (old new : Run) (d e : ℕ) (s : Symbol) : Type 0 where
  pub same : state_of r old ≡ state_of r new
  pub is : symbol_value r.term s ≡ Some (values.bool (terms.is_true (r.term d) && terms.is_true (r.term e)))
