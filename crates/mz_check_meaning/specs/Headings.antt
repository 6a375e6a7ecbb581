-- THE TYPES OF ALL DECLARATIONS AND FUNCTIONS. A type that needs a name or a function is typed after the types of these; where one of
-- them is refused, it is refused with the same fault.
use Rattle.std.specs.Prelude.{ℕ, List, [], ◌∷◌, ◌++◌, None, Ok}
use Rattle.mz_core.specs.Tree.{Decl}
use Rattle.mz_tree.specs.Tree as source
use Rattle.mz_tree.specs.Tree.{Declaration, Written}
use Rattle.mz_tree.specs.Items.{FunctionTree}
use Rattle.mz_scope_order.specs.Parts.{decl_at, function_at}
use Rattle.mz_scope_order.specs.Scoped.{ScopedTree}
use Rattle.mz_scope_order.specs.Subjects.{Subject, of_decl, of_function}
use Rattle.mz_check_meaning.specs.Tests.{Test, ◌>>=◌, ◌>>◌, loop}
use Rattle.mz_check_meaning.specs.Models.{Model, Heading, Env, outermost, bind}
use Rattle.mz_check_meaning.specs.Lets.{new_name, decl_of}
use Rattle.mz_check_meaning.specs.Typing.{check_written}

-- ---- a function's parameters, each visible from its own end on, and then its result

pub record Parameters : Type 0 where
  pub params : List Decl
  pub env : Env

abbrev pub param_next : Model → ℕ → Parameters → Declaration → Test Parameters
param_next m start acc (source.declaration t n at e) = do
  u ← check_written m t acc.env
  new_name start n at acc.env
  Ok (record { params = acc.params ++ decl_of acc.env n at u None ∷ []; env = bind n u.ty acc.env })

unfoldable pub heading : Model → FunctionTree → Test Heading
heading m f = do
  ps ← loop (param_next m m.count) (record { params = []; env = outermost m }) f.params
  r ← check_written m f.result ps.env
  Ok (record { params = ps.params; result = r })

abbrev pub written_in : Declaration → Written
written_in (source.declaration t n at e) = t

-- ---- in an order of declarations and functions

abbrev pub with_type : ScopedTree → Model → Subject → Model
with_type s m (of_decl d) = record m { types = m.types ++ (d, check_written m (written_in (decl_at s.decls d)) (outermost m)) ∷ [] }
with_type s m (of_function f) = record m { headings = m.headings ++ (f, heading m (function_at s.functions f)) ∷ [] }

unfoldable pub with_types : ScopedTree → Model → List Subject → Model
with_types s m [] = m
with_types s m (x ∷ xs) = with_types s (with_type s m x) xs
