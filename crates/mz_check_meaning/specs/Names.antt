-- What a name stands for.
use Rattle.std.specs.Prelude.{ℕ, Bool, true, false, Option, Some, None, Ok}
use Rattle.mz_base.specs.declared.fault.Span.{Span}
use Rattle.mz_base.specs.declared.kind.Kind.TheVariants as kind
use Rattle.mz_core.specs.declared.types.Base.TheVariants as base
use Rattle.mz_core.specs.Types.{PlainType}
use Rattle.mz_core.specs.Tree.{Tree, node, slot, case, enum_set, call, no_trees, DeclaredType}
use Rattle.mz_tree.specs.Tree.{Name}
use Rattle.mz_check_meaning.specs.declared.meaning.Meaning.{Meaning}
use Rattle.mz_check_meaning.specs.declared.meaning.Meaning.TheVariants as meaning
use Rattle.mz_check_meaning.specs.Tests.{Test, ◌>>=◌, refuse}
use Rattle.mz_check_meaning.specs.Models.{Model, Heading, Env, Local, local_in, entry_of, type_of_decl, heading_of}
use Rattle.mz_check_meaning.specs.Coerced.{scalar}

-- in output items a declared name is par
abbrev pub seen_type : Bool → PlainType → PlainType
seen_type true t = record t { var = false }
seen_type false t = t

abbrev pub decl_node : Bool → Span → ℕ → DeclaredType → Tree
decl_node output at d t = node at (seen_type output t.ty) (slot d)

-- the call of a function without parameters
abbrev pub bare_node : Span → ℕ → Heading → Tree
bare_node at f h = node at h.result.ty (call f no_trees)

unfoldable pub meant : Model → Bool → Span → Option Meaning → Test Tree
meant m output at None = refuse kind.UnknownName at
meant m output at (Some (meaning.Decl d)) = type_of_decl m at d >>= λ t. Ok (decl_node output at d t)
meant m output at (Some (meaning.Function f)) = heading_of m at f >>= λ h. Ok (bare_node at f h)
meant m output at (Some (meaning.Enum e)) = Ok (node at (scalar (base.SetEnum e)) (enum_set e))
meant m output at (Some (meaning.Case e k)) = Ok (node at (scalar (base.Enum e)) (case e k))

-- a local name hides an outer one
abbrev pub named_or : Model → Env → Span → Name → Option Local → Test Tree
named_or m env at n (Some l) = Ok (node at l.ty (slot l.slot))
named_or m env at n None = meant m env.output at (entry_of n m.names)

unfoldable pub named : Model → Env → Span → Name → Test Tree
named m env at n = named_or m env at n (local_in n env.locals)

-- `f()`: a function without parameters, where no local name hides it
abbrev pub function_meant : Model → Span → Option Meaning → Test Tree
function_meant m at (Some (meaning.Function f)) = heading_of m at f >>= λ h. Ok (bare_node at f h)
function_meant m at x = refuse kind.NoOverload at

abbrev pub bare_or : Model → Span → Name → Option Local → Test Tree
bare_or m at n (Some l) = refuse kind.NoOverload at
bare_or m at n None = function_meant m at (entry_of n m.names)

unfoldable pub bare_call : Model → Env → Span → Name → Test Tree
bare_call m env at n = bare_or m at n (local_in n env.locals)
