-- THE FORM OF A DECLARED NAME: what the declaration's sets and its value tell of it, before any value is assigned.
use Rattle.std.specs.Prelude.{◌≡◌, ℕ, pos, Bool, true, false, List, [], ◌∷◌, Option, Some, None}
use Rattle.mz_base.specs.declared.fault.Span.{Span}
use Rattle.mz_base.specs.declared.kind.Kind.TheVariants as kind
use Rattle.mz_core.specs.Types.{PlainType}
use Rattle.mz_core.specs.Tree.{Tree, Decl, place_of}
use Rattle.mz_meaning.specs.Arrays.{Want, suits, declared_count, fitted}
use Rattle.mz_meaning.specs.Cells.{Cell, Env, Mode, undefined}
use Rattle.mz_meaning.specs.Contexts.{Context}
use Rattle.mz_meaning.specs.Domains.{Domains, Fixed}
use Rattle.mz_meaning.specs.Forms.{World, Eval}
use Rattle.mz_meaning.specs.Runs.{Run, State, Out, then_do, ◌>>=◌, ◌>>◌, give, stop, spend, loop, weigh}
use Rattle.mz_meaning.specs.Walk.{Assignment, Declared, defined_set, set_want, one_index, variable, surely, free_domains, domains_by_value, declare_in}

-- a par name has its cell; a variable has domains, and the cell of its value if it is declared with one
pub data NameForm : Type 0 where
  ParForm : Cell → NameForm
  VarForm : Domains → Option Cell → NameForm

-- the name, where its slot has this value
abbrev pub declared_as : Mode → Assignment → ℕ → NameForm → Declared
declared_as m a slot (ParForm c) = record { slot = slot; domains = Fixed; cell = c; value = Some c }
declared_as m a slot (VarForm ds v) = variable m a slot ds v

abbrev pub par_form : Span → Cell → Bool → Run NameForm
par_form at c true = give (ParForm c)
par_form at c false = stop kind.ParUndefined at (pos 0)

abbrev pub valued_form : Span → PlainType → List Want → Want → Bool → Cell → Run NameForm
valued_form at t ixs x true c = give (VarForm (domains_by_value t ixs x c) (Some c))
valued_form at t ixs x false c = par_form at c (surely (suits x c))

abbrev pub value_form : World → Eval → Context → Decl → List Want → Want → Env → Option Tree → Run NameForm
value_form w go ctx d ixs x env None = do
  spend w.budget d.span (declared_count ixs undefined)
  give (VarForm (free_domains w.int_range d.ty.ty ixs x) None)
value_form w go ctx d ixs x env (Some e) = do
  c ← go ctx e env
  spend w.budget d.span (declared_count ixs c)
  f ← fitted (place_of e) ixs c
  valued_form (place_of e) d.ty.ty ixs x d.ty.ty.var f

-- THE EVALUATION OF A DECLARATION'S SETS AND VALUE, in order
abbrev pub form_in : World → Eval → Context → Decl → Env → Run NameForm
form_in w go ctx d env = do
  weigh w.mode 1
  ixs ← loop (one_index go ctx env) [] d.ty.index
  x ← set_want go ctx defined_set d.ty.set env
  value_form w go ctx d ixs x env d.value

-- a declaration gives the name of its form
abbrev pub DeclaredByForm : Type 0
DeclaredByForm = (w : World) (go : Eval) (ctx : Context) (a : Assignment) (d : Decl) (env : Env) (s : State) → declare_in w go ctx a d env s ≡ then_do (form_in w go ctx d env s) (λ x s. Out (declared_as w.mode a d.slot x) s)
