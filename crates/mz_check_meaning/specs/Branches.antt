-- `if`: what holds of it when all its parts are typed.
use Rattle.std.specs.Prelude.{List, [], ◌∷◌, ◌++◌, Option, Some, None, Ok}
use Rattle.std.specs.List.{list_any, zip}
use Rattle.mz_base.specs.declared.fault.Span.{Span}
use Rattle.mz_core.specs.Types.{PlainType}
use Rattle.mz_core.specs.Tree.{Tree, node, choice, branches, maybe, type_of}
use Rattle.mz_check_meaning.specs.Tests.{Test, ◌>>=◌, ◌>>◌, loop, each}
use Rattle.mz_check_meaning.specs.Coerced.{coerced, condition, bool_type, bottom_type, made_var, allowed_at}
use Rattle.mz_check_meaning.specs.Arrays.{is_var, join_next, each_to}

-- the join of branches, which begins with the first one's type
unfoldable pub branches_join : List Tree → Test PlainType
branches_join [] = Ok bottom_type
branches_join (e ∷ es) = loop join_next (type_of e) es

-- without an `else` each branch is a Boolean, and so is the whole
abbrev pub whole_type : List Tree → Option Tree → PlainType → Test PlainType
whole_type es (Some e) t = Ok t
whole_type es None t = each condition es >>= λ _. Ok (made_var t.var bool_type)

abbrev pub else_list : Option Tree → List Tree
else_list None = []
else_list (Some e) = e ∷ []

abbrev pub else_to : PlainType → Option Tree → Option Tree
else_to t None = None
else_to t (Some e) = Some (coerced e t)

-- conditions, what stands after the `then` of each, and what stands after the `else`
unfoldable pub decided : Span → List Tree → List Tree → Option Tree → Test Tree
decided at conds thens els = do
  cs ← each condition conds
  joined ← branches_join (thens ++ else_list els)
  whole ← whole_type thens els joined
  t ← allowed_at at (made_var (list_any is_var cs) whole)
  Ok (node at t (choice (branches (zip cs (each_to t thens))) (maybe (else_to t els))))
