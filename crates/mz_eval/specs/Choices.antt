-- The branches of an `if`.
use Rattle.std.specs.Prelude.{List, Option, Box}
use Rattle.std.specs.Option.{option_map}
use Rattle.std.specs.Global.{Global}
use Rattle.mz_base.specs.declared.fault.Span.{Span}
use Rattle.mz_core.specs.Types.{PlainType}
use Rattle.mz_core.specs.declared.tree.Core.{Core}
use Rattle.mz_core.specs.Tree.{Tree}
use Rattle.mz_core.specs.TreeViews.{tree}
use Rattle.mz_meaning.specs.Runs.{Run, ◌>>◌, spend}
use Rattle.mz_meaning.specs.Cells.{Cell, Test}
use Rattle.mz_meaning.specs.Arrays as arrays
use Rattle.mz_meaning.specs.Forms as forms
use Rattle.mz_meaning.specs.Forms.{World}
use Rattle.mz_eval_cells.specs.declared.types.Known.{Known}
use Rattle.mz_symbol.specs.Readings.{Reading}
use Rattle.mz_eval_scopes.specs.declared.types.Scope.{Scope}
use Rattle.mz_eval_cells.specs.Views.{seen}
use Rattle.mz_eval_nodes.specs.Views.{pairs_seen}
use Rattle.mz_eval.specs.declared.types.Level.{Level}
use Rattle.mz_eval.specs.Levels.{in_scope}

-- what follows `else`, if there is one
abbrev pub else_tree : Option (Box Core Global) → Option Tree
else_tree = option_map (λ e. tree e.value)

-- the node, whose last branch is evaluated
abbrev pub branch_cell : World → Span → PlainType → List (Cell × Cell) → Cell → Run Cell
branch_cell w at t others c = spend w.budget at 1 >> arrays.branch_cell w.mode t at others c

-- a branch that isn't the last
abbrev pub open_branch : Reading → Level → Scope → Core → List (Known × Known) → Known → Test → Run (List (Cell × Cell))
open_branch r l s e others c t = in_scope r l s (λ w go ctx env. forms.open_branch w go ctx (tree e) env (pairs_seen r others) (seen r c) t)
