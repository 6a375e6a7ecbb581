-- Names of declarations and of functions as expressions. Mirror of src/names.rt; private clauses only.
use Rattle.std.specs.Prelude.{ℕ, Bool, Ok}
use Rattle.mz_base.specs.declared.fault.Span.{Span}
use Rattle.mz_core.specs.Tree.{Tree}
use Rattle.mz_check_meaning.specs.Tests.{Test, ◌>>=◌}
use Rattle.mz_check_meaning.specs.Models.{Model, type_of_decl, heading_of}
use Rattle.mz_check_meaning.specs.Names.{decl_node, bare_node}

abbrev pub declared_node : Model → Bool → Span → ℕ → Test Tree
declared_node m output at d = type_of_decl m at d >>= λ t. Ok (decl_node output at d t)

abbrev pub function_node : Model → Span → ℕ → Test Tree
function_node m at f = heading_of m at f >>= λ h. Ok (bare_node at f h)
