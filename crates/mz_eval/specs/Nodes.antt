-- Nodes with their types.
use Rattle.std.specs.Prelude.{false, List}
use Rattle.mz_base.specs.declared.fault.Span.{Span}
use Rattle.mz_core.specs.declared.tree.Core.{Core}
use Rattle.mz_core.specs.declared.tree.CoreForm.TheViews.{out-CoreForm}
use Rattle.mz_core.specs.Types.{PlainType, plain_type}
use Rattle.mz_core.specs.Tree.{Layer}
use Rattle.mz_core.specs.TreeViews.{form_layer}
use Rattle.mz_meaning.specs.Runs.{Run, ◌>>=◌, ◌>>◌, give, spend}
use Rattle.mz_meaning.specs.Cells.{Cell, Env, typed}
use Rattle.mz_meaning.specs.Arrays.{access_cell, table_cell}
use Rattle.mz_meaning.specs.Contexts.{Context}
use Rattle.mz_meaning.specs.Evaluation.{node, is_name}
use Rattle.mz_meaning.specs.Forms.{World, Eval, done}
use Rattle.mz_symbol.specs.Readings.{Reading}
use Rattle.mz_eval_cells.specs.declared.types.Known.{Known}
use Rattle.mz_eval_cells.specs.Views.{seen}

-- the cell of a node, once the node's type is stamped on it
abbrev pub stamped_at : Core → Reading → Known → Cell
stamped_at n r k = typed r.mode (is_name (form_layer (out-CoreForm n.form))) (plain_type n.ty) (seen r k)

-- of what is no name
abbrev pub typed_by : World → PlainType → Run Cell → Run Cell
typed_by w t run = run >>= λ c. give (typed w.mode false t c)

abbrev pub node_stamped : World → Eval → Context → Layer → Span → PlainType → Env → Run Cell
node_stamped w go ctx l at t env = node w go ctx l at t env >>= λ c. give (typed w.mode (is_name l) t c)

-- an access over cells, with its work
abbrev pub access_node : World → PlainType → Span → Cell → List Cell → Run Cell
access_node w t at a cells = typed_by w t (done w at (access_cell w.mode t a cells))

-- rows over cells, with the node's work
abbrev pub table_node : World → Span → List (List Cell) → Run Cell
table_node w at rows = spend w.budget at 1 >> table_cell w.mode at rows
