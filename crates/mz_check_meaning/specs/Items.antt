-- The values, bodies and items of a model, where all types are typed.
use Rattle.std.specs.Prelude.{ℕ, List, [], ◌∷◌, Option, Some, None, if◌then◌else◌, Ok}
use Rattle.mz_base.specs.declared.kind.Kind.TheVariants as kind
use Rattle.mz_core.specs.declared.types.Base.TheVariants as base
use Rattle.mz_core.specs.Types.{PlainType}
use Rattle.mz_core.specs.Tree.{Tree, Decl, type_of, place_of}
use Rattle.mz_core.specs.Program.{Function, Goal, satisfy, minimize, maximize}
use Rattle.mz_tree.specs.Tree as source
use Rattle.mz_tree.specs.Tree.{Maybe, Declaration}
use Rattle.mz_tree.specs.Items as item
use Rattle.mz_tree.specs.Items.{FunctionTree, GoalTree}
use Rattle.mz_check_meaning.specs.Tests.{Test, ◌>>=◌, refuse}
use Rattle.mz_check_meaning.specs.Models.{Model, Env, outermost, in_output, bind, type_of_decl, heading_of}
use Rattle.mz_check_meaning.specs.Coerced.{fitted, condition, as_var, text_type, is_scalar}
use Rattle.mz_check_meaning.specs.Typing.{check}

-- ---- a declaration: its value is below its type. Its slot is its number

abbrev pub value_of : Model → PlainType → Maybe → Test (Option Tree)
value_of m t source.nothing = Ok None
value_of m t (source.just e) = do
  v ← check m e (outermost m)
  w ← fitted v t
  Ok (Some w)

unfoldable pub decl : Model → ℕ → Declaration → Test Decl
decl m d (source.declaration t n at e) = do
  u ← type_of_decl m at d
  v ← value_of m u.ty e
  Ok (record { slot = d; name = n; span = at; ty = u; value = v })

-- ---- a function: its body is below its result

unfoldable pub with_params : List Decl → Env → Env
with_params [] env = env
with_params (d ∷ ds) env = with_params ds (bind d.name d.ty.ty env)

unfoldable pub function : Model → ℕ → FunctionTree → Test Function
function m k f = do
  h ← heading_of m f.span k
  e ← check m f.body (with_params h.params (outermost m))
  b ← fitted e h.result.ty
  Ok (record { name = f.name; span = f.span; params = h.params; result = h.result; body = b })

-- ---- a constraint is a Boolean, the objective an integer, an output item an array of texts

unfoldable pub constraint : Model → source.Tree → Test Tree
constraint m e = check m e (outermost m) >>= condition

abbrev pub integer : Tree → Test Tree
integer e = fitted e (as_var e base.Int)

abbrev pub objective : Model → source.Tree → Test Tree
objective m e = check m e (outermost m) >>= integer

unfoldable pub goal : Model → GoalTree → Test Goal
goal m item.satisfy = Ok satisfy
goal m (item.minimize e) = objective m e >>= λ o. Ok (minimize o)
goal m (item.maximize e) = objective m e >>= λ o. Ok (maximize o)

-- an array of texts with as many dimensions
abbrev pub texts_like : Tree → PlainType
texts_like e = record text_type { dims = (type_of e).dims }

abbrev pub texts_fitted : Tree → Test Tree
texts_fitted e =
    if is_scalar (type_of e) then refuse kind.TypeMismatch (place_of e) else fitted e (texts_like e)

unfoldable pub output : Model → source.Tree → Test Tree
output m e = check m e (in_output m) >>= texts_fitted
