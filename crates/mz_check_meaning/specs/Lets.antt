-- Lets and other declarations: what holds of them when their parts are typed.
use Rattle.std.specs.Prelude.{◌≡◌, ℕ, Bool, false, not, List, Option, Ok, is_none}
use Rattle.std.specs.List.{list_any}
use Rattle.mz_base.specs.declared.fault.Span.{Span}
use Rattle.mz_base.specs.declared.kind.Kind.TheVariants as kind
use Rattle.mz_core.specs.Tree.{Tree, Decl, DeclaredType, Item, declares, constrains, node, let_in, items, type_of}
use Rattle.mz_tree.specs.Tree.{Name}
use Rattle.mz_check_meaning.specs.Tests.{Test, ◌>>=◌, ◌>>◌, require, each}
use Rattle.mz_check_meaning.specs.Models.{Env, is_bound_since}
use Rattle.mz_check_meaning.specs.Coerced.{coerced, condition, made_var, allowed_at}
use Rattle.mz_check_meaning.specs.Arrays.{is_var}

-- a declared name is new since the start; DuplicateName at it
abbrev pub new_name : ℕ → Name → Span → Env → Test (Unit {0})
new_name start n at env = require (not (is_bound_since start n env)) kind.DuplicateName at

abbrev pub decl_of : Env → Name → Span → DeclaredType → Option Tree → Decl
decl_of env n at t v = record { slot = env.next; name = n; span = at; ty = t; value = v }

abbrev pub is_var_item : Item → Bool
is_var_item (declares d) = d.ty.ty.var
is_var_item (constrains e) = is_var e

-- constraints are tested when the body is typed
abbrev pub item_fitted : Item → Test Item
item_fitted (declares d) = Ok (declares d)
item_fitted (constrains e) = condition e >>= λ c. Ok (constrains c)

-- var where a declared type or a constraint is var; TypeMismatch at the let, where that would be no type
unfoldable pub let_node : Span → List Item → Tree → Test Tree
let_node at is e = do
  fs ← each item_fitted is
  t ← allowed_at at (made_var (list_any is_var_item is) (type_of e))
  Ok (node at t (let_in (items fs) (coerced e t)))

-- a declaration of a let that is par has a value
abbrev pub HasValue : Item → Type 0
HasValue (declares d) = d.ty.ty.var ≡ false → is_none d.value ≡ false
HasValue (constrains e) = Unit {0}
