-- Parameters that are typed so far, with the scope after them. Mirror of src/headings.rt; private clauses only.
use Rattle.std.specs.Prelude.{ℕ, List, [], ◌∷◌, ◌++◌, None, map, Ok}
use Rattle.mz_base.specs.declared.fault.Span.{Span}
use Rattle.mz_core.specs.declared.tree.CoreDecl.{CoreDecl}
use Rattle.mz_core.specs.TreeViews.{decl}
use Rattle.mz_tree.specs.Tree.{Name, Written}
use Rattle.mz_check_meaning.specs.Tests.{Test, ◌>>=◌, ◌>>◌}
use Rattle.mz_check_meaning.specs.Models.{Model, Env, bind}
use Rattle.mz_check_meaning.specs.Lets.{new_name, decl_of}
use Rattle.mz_check_meaning.specs.Typing.{check_written}
use Rattle.mz_check_meaning.specs.Headings.{Parameters}

abbrev pub parameters : List CoreDecl → Env → Parameters
parameters ds env = record { params = map decl ds; env = env }

-- a parameter by its parts
abbrev pub param_by : Model → ℕ → Parameters → Written → Name → Span → Test Parameters
param_by m start acc t n at = do
  u ← check_written m t acc.env
  new_name start n at acc.env
  Ok (record { params = acc.params ++ decl_of acc.env n at u None ∷ []; env = bind n u.ty acc.env })
