-- The elements of lines.
use Rattle.std.proofs.Common.{◌≡◌, ◌∙◌, ℕ, List, Some, slice_get, sym, ap, subst}
use Rattle.mz_arena.specs.Values.{Term}
use Rattle.mz_symbol.specs.declared.types.Line.{Line}
use Rattle.mz_symbol.specs.declared.types.Symbol.{Symbol}
use Rattle.mz_symbol.specs.Symbols.{AreWhole, elements_value}
use Rattle.mz_symbol.specs.Runs.{Run, IsRun}
use Rattle.mz_eval_guards.specs.StepsLines.{HasItems}

pub items_told : (s : Run) (k : ℕ) (l : Line) (ss : List Symbol) → IsRun s → slice_get s.lines k ≡ Some l → ss ≡ l.items.items → HasItems s k l.defined ss
items_told s k l ss run at e = record {
  value = λ r reads. reads.lines k l at ∙ ap (elements_value r.term l.defined) (sym e);
  whole = λ t h. subst (AreWhole t l.defined) (sym e) (run.lines t h k l at).whole;
}
