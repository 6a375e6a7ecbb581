-- The arguments, the body and the result of a call.
use Rattle.std.specs.Prelude.{◌≡◌, Bool, List, map}
use Rattle.mz_base.specs.declared.fault.Span.{Span}
use Rattle.mz_core.specs.declared.tree.Core.{Core}
use Rattle.mz_core.specs.declared.tree.CoreDecl.{CoreDecl}
use Rattle.mz_core.specs.Program.{Function}
use Rattle.mz_core.specs.Tree.{Tree, Decl, place_of}
use Rattle.mz_core.specs.TreeViews.{tree, decl}
use Rattle.mz_meaning.specs.Runs.{State, Run, ◌>>=◌, ◌>>◌}
use Rattle.mz_meaning.specs.Cells.{Cell, Env, Sure}
use Rattle.mz_meaning.specs.Arrays.{Want, fitted}
use Rattle.mz_meaning.specs.Contexts.{Context}
use Rattle.mz_meaning.specs.Forms.{World, Eval, done, handed}
use Rattle.mz_meaning.specs.Lets.{want, index_wants}
use Rattle.mz_meaning.specs.Calls.{arguments}
use Rattle.mz_eval_cells.specs.declared.types.Known.{Known}
use Rattle.mz_eval_cells.specs.Views.{all_seen, seen}
use Rattle.mz_eval_guards.specs.declared.types.Guard.{Guard}
use Rattle.mz_eval_guards.specs.Guards.{guard_seen}
use Rattle.mz_symbol.specs.Readings.{Reading}
use Rattle.mz_eval_names.specs.Names.{argument_fitted, result_cell}

-- the parameters with their arguments
abbrev pub arguments_seen : Reading → List CoreDecl → List Core → List Known → List (Decl × Tree × Cell)
arguments_seen r ds es cs = arguments (map decl ds) (map tree es) (all_seen r cs)

-- an argument under its parameter
abbrev pub argument : Eval → Context → Bool → Env → Decl → Tree → Cell → Run (Cell × Sure)
argument go ctx var env d e k = do
  ixs ← index_wants go ctx d.ty.index env
  x ← want go ctx d.ty.set env
  argument_fitted var d.ty.ty.var (place_of e) ixs x k

-- with the result's index sets and set, once it takes the index sets
abbrev pub ended_call : World → Function → Span → Sure → List Want → Want → Cell → Run Cell
ended_call w f at holds ixs x r = handed w.mode r >> done w at (result_cell w.mode f.result.ty holds ixs x r)

-- what the body gives, under the result's sets
abbrev pub result_in : World → Eval → Context → Function → Span → Sure → Env → Cell → Run Cell
result_in w go ctx f at holds env c = do
  ixs ← index_wants go ctx f.result.index env
  x ← want go ctx f.result.set env
  r ← fitted (place_of f.body) ixs c
  ended_call w f at holds ixs x r

-- in the scope of the parameters, of which `holds` tells whether all that is declared of them holds
abbrev pub called_in : World → Eval → Context → Function → Span → Sure → Env → Run Cell
called_in w go ctx f at holds env = go ctx f.body env >>= λ c. result_in w go ctx f at holds env c

-- A CALL HAS ITS BODY'S CELL AS IT IS, whatever is read
abbrev pub HasOwnCell : Function → Guard → Known → Type 0
HasOwnCell f g k = (r : Reading) (w : World) (go : Eval) (ctx : Context) (at : Span) (env : Env) (s : State) → result_in w go ctx f at (guard_seen r g) env (seen r k) s ≡ done w at (seen r k) s
