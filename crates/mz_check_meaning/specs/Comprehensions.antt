-- Comprehensions: generators that bind names one after the other, and what holds of the whole when all its parts are typed.
use Rattle.std.specs.Prelude.{ℕ, ◌+◌, Bool, true, false, not, ◌&&◌, ◌||◌, List, [], ◌∷◌, ◌++◌, Option, Some, None, if◌then◌else◌, Ok}
use Rattle.std.specs.List.{list_any}
use Rattle.mz_base.specs.declared.fault.Span.{Span}
use Rattle.mz_base.specs.declared.kind.Kind.TheVariants as kind
use Rattle.mz_core.specs.declared.types.Base.{Base}
use Rattle.mz_core.specs.declared.types.Base.TheVariants as base
use Rattle.mz_core.specs.declared.types.Ix.{Ix}
use Rattle.mz_core.specs.Types.{PlainType, is_allowed}
use Rattle.mz_core.specs.Order.{no_dims}
use Rattle.mz_core.specs.Tree.{Tree, Gen, node, comp, gens, type_of, place_of}
use Rattle.mz_tree.specs.Tree.{Name}
use Rattle.mz_check_meaning.specs.Tests.{Test, ◌>>=◌, ◌>>◌, refuse, require, loop, each, if_there}
use Rattle.mz_check_meaning.specs.Models.{Env, bind, is_bound_since}
use Rattle.mz_check_meaning.specs.Coerced.{coerced, condition, is_below, as_var, scalar, element_of, list_of, is_scalar, is_set_type}
use Rattle.mz_check_meaning.specs.Arrays.{is_var, member_base, set_base}

-- the type of a name that runs over a set: par, also where the set is var
abbrev pub member_of : Base → Base
member_of (base.SetEnum e) = base.Enum e
member_of base.SetBottom = base.Bottom
member_of b = base.Int

abbrev pub is_list_type : List Ix → Bool
is_list_type [] = false
is_list_type (d ∷ ds) = no_dims ds

-- a generator runs over a set or over an array of one dimension; else TypeMismatch at it
unfoldable pub running_type : Tree → Test PlainType
running_type e =
    if is_set_type (type_of e)
    then Ok (scalar (member_of (type_of e).base))
    else (if is_list_type (type_of e).dims then Ok (element_of (type_of e)) else refuse kind.TypeMismatch (place_of e))

-- the slots of the names of a generator, and the names in scope after them
pub record Bound : Type 0 where
  pub slots : List ℕ
  pub env : Env

-- one more name; DuplicateName at a name that was bound since the start
abbrev pub bind_next : ℕ → PlainType → Bound → Name × Span → Test Bound
bind_next start t b n = do
  require (not (is_bound_since start n.0 b.env)) kind.DuplicateName n.1
  Ok (record { slots = b.slots ++ b.env.next ∷ []; env = bind n.0 t b.env })

unfoldable pub bind_names : ℕ → PlainType → List (Name × Span) → Env → Test Bound
bind_names start t ns env = loop (bind_next start t) (record { slots = []; env = env }) ns

-- THE WHOLE

abbrev pub where_fitted : Gen → Test Gen
where_fitted g = if_there condition g.cond >>= λ c. Ok (record g { cond = c })

abbrev pub var_cond : Option Tree → Bool
var_cond None = false
var_cond (Some e) = is_var e

-- its set or array, or its `where`, is var
abbrev pub is_var_gen : Gen → Bool
is_var_gen g = is_var g.set || var_cond g.cond

-- its set, or its `where`, is var: then an element may be absent
abbrev pub may_leave_out : Gen → Bool
may_leave_out g = (is_var g.set && is_set_type (type_of g.set)) || var_cond g.cond

abbrev pub head_type : List Gen → PlainType → PlainType
head_type gs t = record t { var = t.var || list_any is_var_gen gs; opt = t.opt || list_any may_leave_out gs }

-- `[.. | ..]`: TypeMismatch at the head, where its elements would be of no type
unfoldable pub listed_heads : Span → List Gen → Tree → Test Tree
listed_heads at gs e = do
  require (is_scalar (type_of e) && is_allowed (head_type gs (type_of e))) kind.TypeMismatch (place_of e)
  Ok (node at (list_of (head_type gs (type_of e))) (comp false (coerced e (head_type gs (type_of e))) (gens gs)))

-- `{.. | ..}`, all of which is par
unfoldable pub set_of_heads : Span → List Gen → Tree → Test Tree
set_of_heads at gs e = do
  require (is_below e (as_var e base.Int)) kind.TypeMismatch (place_of e)
  require (not (list_any is_var_gen gs || is_var e)) kind.LeftOut at
  Ok (node at (scalar (set_base (type_of e).base)) (comp true (coerced e (scalar (member_base (type_of e).base))) (gens gs)))

abbrev pub heads : Span → Bool → List Gen → Tree → Test Tree
heads at true gs e = set_of_heads at gs e
heads at false gs e = listed_heads at gs e

unfoldable pub comprehended : Span → Bool → List Gen → Tree → Test Tree
comprehended at braces gs e = each where_fitted gs >>= λ fs. heads at braces fs e
