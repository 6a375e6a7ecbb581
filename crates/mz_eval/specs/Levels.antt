-- What goes through an evaluation, as the definitions see it.
use Rattle.mz_base.specs.declared.fault.Span.{Span}
use Rattle.mz_core.specs.declared.tree.Core.{Core}
use Rattle.mz_core.specs.Types.{PlainType, plain_type}
use Rattle.mz_meaning.specs.Cells.{Env}
use Rattle.mz_meaning.specs.Contexts.{Context}
use Rattle.mz_meaning.specs.Forms.{World, Eval}
use Rattle.mz_symbol.specs.Readings.{Reading}
use Rattle.mz_meaning.specs.Evaluation.{eval}
use Rattle.mz_eval_scopes.specs.declared.types.Scope.{Scope}
use Rattle.mz_eval_scopes.specs.Seen.{world_seen, env_seen, ctx_of}
use Rattle.mz_eval.specs.declared.types.Level.{Level}

abbrev pub world_in : Reading → Level → World
world_in r l = world_seen r l.world.now

-- how an expression is evaluated with this many levels of nesting left
abbrev pub go_of : Reading → Level → Eval
go_of r l = eval (world_in r l) l.left

abbrev pub scope_of : Reading → Level → Scope → Env
scope_of r l s = env_seen r l.world.now s

-- ---- a definition at a level and in its context; in a scope; for a node, with its place and its type

abbrev pub at_level : {A : Type 0} → Reading → Level → (World → Eval → Context → A) → A
at_level r l f = f (world_in r l) (go_of r l) (ctx_of l.ctx)

abbrev pub in_scope : {A : Type 0} → Reading → Level → Scope → (World → Eval → Context → Env → A) → A
in_scope r l s f = f (world_in r l) (go_of r l) (ctx_of l.ctx) (scope_of r l s)

abbrev pub at_node : {A : Type 0} → Reading → Level → Scope → Core → (World → Eval → Context → Span → PlainType → Env → A) → A
at_node r l s n f = f (world_in r l) (go_of r l) (ctx_of l.ctx) n.span (plain_type n.ty) (scope_of r l s)
