-- Local declarations.
use Rattle.std.specs.Prelude.{List, Option}
use Rattle.mz_core.specs.declared.tree.CoreDecl.{CoreDecl}
use Rattle.mz_core.specs.Tree.{Tree, Decl}
use Rattle.mz_core.specs.TreeViews.{decl}
use Rattle.mz_meaning.specs.Runs.{Run, ◌>>◌, spend}
use Rattle.mz_meaning.specs.Cells.{Cell, Sure, undefined}
use Rattle.mz_meaning.specs.Contexts.{Context}
use Rattle.mz_meaning.specs.Arrays as arrays
use Rattle.mz_meaning.specs.Arrays.{declared_count}
use Rattle.mz_meaning.specs.Forms.{World}
use Rattle.mz_meaning.specs.Lets.{given_value, free_local}
use Rattle.mz_eval_declared.specs.declared.want.Want.{Want}
use Rattle.mz_eval_declared.specs.Wants.{wanted, wants_of}
use Rattle.mz_eval_scopes.specs.declared.types.Scope.{Scope}
use Rattle.mz_symbol.specs.Readings.{Reading}
use Rattle.mz_eval.specs.declared.types.Level.{Level}
use Rattle.mz_eval.specs.Levels.{in_scope}

-- without a value
abbrev pub free_value : World → Context → Decl → List arrays.Want → arrays.Want → Run (Cell × Sure)
free_value w ctx d ixs x = spend w.budget d.span (declared_count ixs undefined) >> free_local w ctx d.ty.span d.ty.ty ixs x

-- with its value, if it has one, once its sets are evaluated
abbrev pub local_value : Reading → Level → Scope → CoreDecl → List Want → Want → Option Tree → Run (Cell × Sure)
local_value r l s d ixs x e = in_scope r l s (λ w go ctx env. given_value w go ctx (decl d) (wants_of ixs) (wanted x) env e)
