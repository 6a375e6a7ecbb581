-- Booleans that may be undefined, by two nodes.
use Rattle.std.specs.Prelude.{◌≡◌, ℕ, true, Option}
use Rattle.mz_value.specs.Contents.{Content}
use Rattle.mz_arena.specs.Values.{is_true}
use Rattle.mz_meaning.specs.Cells.{held}
use Rattle.mz_symbol.specs.declared.types.Symbol.{Symbol}
use Rattle.mz_symbol.specs.Readings.{Reading}
use Rattle.mz_symbol_rows.specs.RowValues.{argument}
use Rattle.mz_eval_cells.specs.Views.{truth_by}

-- true where the first is true; else false where the second is, and undefined elsewhere
abbrev pub truth_seen : Reading → ℕ × ℕ → Option Content
truth_seen r p = held r.mode (truth_by (is_true (r.term p.0)) (is_true (r.term p.1)))

-- a node is true where a symbol is, which is a Boolean and defined
abbrev pub IsNodeOf : Symbol → ℕ → Type 0
IsNodeOf s id = (r : Reading) → argument r s ≡ held r.mode (truth_by (is_true (r.term id)) true)
