-- Chains of operators.
use Rattle.std.specs.Prelude.{List, None, map}
use Rattle.mz_base.specs.declared.fault.Span.{Span}
use Rattle.mz_core.specs.declared.tree.Core.{Core}
use Rattle.mz_core.specs.declared.tree.CoreStep.{CoreStep}
use Rattle.mz_core.specs.Tree.{Tree, Step, place_of}
use Rattle.mz_core.specs.TreeViews.{tree, step}
use Rattle.mz_meaning.specs.Runs.{Run, ◌>>=◌}
use Rattle.mz_meaning.specs.Cells.{Cell, Env}
use Rattle.mz_meaning.specs.Contexts.{Context}
use Rattle.mz_meaning.specs.Chains.{Operator, Innermost, with_innermost, left_in, right_in}
use Rattle.mz_meaning.specs.Forms.{World, Eval, Appended, append_operands}
use Rattle.mz_eval_nodes.specs.Operators.{nothing_appended, operator_step}

-- where no operator of the first operand belongs to the chain
abbrev pub own_operators : Span → Core → List CoreStep → Innermost
own_operators at first ss = with_innermost at (map step ss) (tree first) None

-- the operands of `++` after the first one
abbrev pub operands : World → Eval → Context → Env → Span → Cell → List Operator → Run Appended
operands w go ctx env place first os = append_operands w go ctx env (nothing_appended place first) os

-- one operator over an operand that none of its chain belongs to
abbrev pub one_operator : World → Eval → Context → Env → Span → Tree → Step → Run Cell
one_operator w go ctx env at e s = go (left_in ctx s) e env >>= λ left. operator_step w go (right_in ctx s) env (place_of e) left (record { at = at; step = s })
