-- Calls of functions whose parameters have no declared sets.
use Rattle.std.specs.Prelude.{◌≡◌, ℕ, Bool, List, [], ◌∷◌, None, Some, slice_get}
use Rattle.mz_base.specs.declared.fault.Span.{Span}
use Rattle.mz_core.specs.Program.{Function, function}
use Rattle.mz_core.specs.Tree.{Tree, Decl}
use Rattle.mz_meaning.specs.Runs.{Run, ◌>>=◌, ◌>>◌, weigh}
use Rattle.mz_meaning.specs.Cells.{Cell, Env, Sure, sure, both_sure, bind}
use Rattle.mz_meaning.specs.Arrays.{Anything}
use Rattle.mz_meaning.specs.Contexts.{Context}
use Rattle.mz_meaning.specs.Forms.{World, Eval, parts}
use Rattle.mz_meaning.specs.Calls.{all_lengths, argument_suits}
use Rattle.mz_eval_guards.specs.Guards.{guard_seen}
use Rattle.mz_symbol.specs.Readings.{Reading}
use Rattle.mz_eval_scopes.specs.Seen.{ctx_of}
use Rattle.mz_eval.specs.declared.types.Level.{Level}
use Rattle.mz_eval.specs.declared.types.Call.{Call}
use Rattle.mz_eval.specs.declared.types.CallScope.{CallScope}
use Rattle.mz_eval.specs.Levels.{world_in, go_of, scope_of}
use Rattle.mz_eval.specs.Calls.{called_in}

-- a parameter without declared sets
pub record IsPlain (d : Decl) : Type 0 where
  pub index : d.ty.index ≡ []
  pub set : d.ty.set ≡ None

abbrev pub ArePlain : List Decl → Type 0
ArePlain [] = Unit {0}
ArePlain (d ∷ ds) = IsPlain d × ArePlain ds

-- the function with this number
pub record IsPlainAt (fs : List Function) (n : ℕ) (f : Function) : Type 0 where
  pub found : slice_get fs n ≡ Some f
  pub plain : ArePlain f.params

-- whether arguments suit such parameters, and what holds before
abbrev pub all_suit : Bool → List Decl → List Cell → Sure → Sure
all_suit var [] cs holds = holds
all_suit var (d ∷ ds) [] holds = holds
all_suit var (d ∷ ds) (c ∷ cs) holds = all_suit var ds cs (both_sure holds (argument_suits var d.ty.ty.var Anything c))

abbrev pub with_arguments : List Decl → List Cell → Env → Env
with_arguments [] cs env = env
with_arguments (d ∷ ds) [] env = env
with_arguments (d ∷ ds) (c ∷ cs) env = with_arguments ds cs (bind d.slot c env)

-- a call on the arguments that are left, after others that are bound in `inner` and have so many elements
abbrev pub called_on : World → Eval → Context → Function → Span → List Decl → List Tree → ℕ → Sure → Env → Env → Run Cell
called_on w go ctx f at ds es n holds env inner = do
  cs ← parts go ctx es env
  weigh w.mode (all_lengths n cs)
  called_in w go ctx f at (all_suit f.result.ty.var ds cs holds) (with_arguments ds cs inner)

-- on all its arguments
abbrev pub called_on_all : World → Eval → Context → Function → Span → List Tree → Env → Run Cell
called_on_all w go ctx f at es env = called_on w go ctx f at f.params es 0 sure env w.top

-- once all are bound
abbrev pub called_on_none : World → Eval → Context → Function → Span → ℕ → Sure → Env → Run Cell
called_on_none w go ctx f at n holds inner = weigh w.mode n >> called_in w go ctx f at holds inner

-- the same in the code's words
abbrev pub call_goes_on : Reading → Level → Call → List Decl → List Tree → CallScope → Run Cell
call_goes_on r l c ds es b = called_on (world_in r l) (go_of r l) (ctx_of l.ctx) (function c.function.now) c.at ds es b.elements (guard_seen r b.holds) (scope_of r l c.scope.now) (scope_of r l b.scope.now)

abbrev pub call_ends : Reading → Level → Call → CallScope → Run Cell
call_ends r l c b = called_on_none (world_in r l) (go_of r l) (ctx_of l.ctx) (function c.function.now) c.at b.elements (guard_seen r b.holds) (scope_of r l b.scope.now)
