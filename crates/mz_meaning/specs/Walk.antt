-- THE WALK: the evaluation of a whole model. No declaration may lack a bound; then come the declarations in the order of their evaluation, the constraints in source order, and the objective.
use Rattle.std.specs.Prelude.{ℕ, ℤ, pos, Bool, true, false, ◌&&◌, List, [], ◌∷◌, ◌++◌, map, replicate, Option, Some, None, slice_get}
use Rattle.mz_base.specs.declared.fault.Span.{Span}
use Rattle.mz_base.specs.declared.kind.Kind.TheVariants as kind
use Rattle.mz_value.specs.Ranges.{Range, range_of}
use Rattle.mz_value.specs.Contents.{Content}
use Rattle.mz_core.specs.declared.types.Base.{Base}
use Rattle.mz_core.specs.declared.types.Base.TheVariants as base
use Rattle.mz_core.specs.Types.{PlainType}
use Rattle.mz_core.specs.Program.{Goal, PlainProgram}
use Rattle.mz_core.specs.Program as program
use Rattle.mz_core.specs.Tree.{Tree, Decl, place_of}
use Rattle.mz_operations.specs.Arrays.{place_count}
use Rattle.mz_operations.specs.Bounds.{Bound, Bounds}
use Rattle.mz_operations.specs.Bounds as bounds
use Rattle.mz_meaning.specs.Runs.{Run, ◌>>=◌, ◌>>◌, give, stop, spend, loop, weigh}
use Rattle.mz_meaning.specs.Cells.{Cell, Par, Var, Unshaped, Mode, held, Env, no_names, bind, undefined, bounds_in, empty_bound, set_in, Sure}
use Rattle.mz_meaning.specs.Domains.{Domain, Domains, Fixed, Scalar, Places, domains_bounds, domain_over, default_set}
use Rattle.mz_meaning.specs.Arrays.{Want, Anything, Missing, Within, suits, declared_ranges, declared_count, fitted}
use Rattle.mz_meaning.specs.Contexts.{Context}
use Rattle.mz_meaning.specs.Forms.{World, Eval}
use Rattle.mz_meaning.specs.Lets.{contiguous}
use Rattle.mz_meaning.specs.Evaluation.{eval}
use Rattle.mz_meaning.specs.Unbounded.{first_unbounded}

pub record Limits : Type 0 where
  pub budget : ℕ
  -- a free `int` ranges from -n to n
  pub int_range : ℤ

-- the greatest nesting
abbrev pub levels : ℕ
levels = 600

-- THE VALUE OF EACH DECISION VARIABLE, by its slot
abbrev pub Assignment : Type 0
Assignment = ℕ → Option Content

-- ---- domains

-- the numbers, or the greatest set, that bounds allow
abbrev pub bound_set : Bound → List Range
bound_set (bounds.number e) = range_of e.0 e.1
bound_set (bounds.sets l u) = u

-- where no set is declared, a Boolean's domain is that of its type, and any other is that of the value's bounds
abbrev pub own_set : Base → Bound → List Range
own_set base.Bool b = default_set (pos 0) base.Bool
own_set _ b = bound_set b

abbrev pub set_by_value : Base → Want → Bound → List Range
set_by_value b Anything k = own_set b k
set_by_value b Missing k = own_set b k
set_by_value b (Within u) k = u

abbrev pub domain_by_value : PlainType → Want → Bound → Domain
domain_by_value t x b = domain_over t (set_by_value t.base x b)

abbrev pub domains_of_bounds : PlainType → Want → Bounds → Domains
domains_of_bounds t x (bounds.one b) = Scalar (domain_by_value t x b)
domains_of_bounds t x (bounds.many ix bs) = Places ix (map (domain_by_value t x) bs)

abbrev pub domains_in_ranges : List Range → Domain → Domains
domains_in_ranges ix d = Places ix (replicate (place_count ix) d)

-- of a name with a value; an array without a shape has 0..0 at each declared place, or no element that a set may have
abbrev pub domains_by_value : PlainType → List Want → Want → Cell → Domains
domains_by_value t ixs x (Par v) = domains_of_bounds t x (bounds_in (Par v))
domains_by_value t ixs x (Var b v) = domains_of_bounds t x b
domains_by_value t ixs x (Unshaped d) = domains_in_ranges (declared_ranges ixs []) (domain_by_value t x (empty_bound t))

abbrev pub free_set : ℤ → Base → Want → List Range
free_set n b Anything = default_set n b
free_set n b Missing = default_set n b
free_set n b (Within u) = u

-- of a name without a value
abbrev pub free_domains : ℤ → PlainType → List Want → Want → Domains
free_domains n t [] x = Scalar (domain_over t (free_set n t.base x))
free_domains n t (r ∷ rs) x = domains_in_ranges (declared_ranges (r ∷ rs) []) (domain_over t (free_set n t.base x))

-- ---- declarations

-- a declared name: its domains, its cell, and the cell of its value
pub record Declared : Type 0 where
  pub slot : ℕ
  pub domains : Domains
  pub cell : Cell
  pub value : Option Cell

abbrev pub names_env : List Declared → Env
names_env [] = no_names
names_env (x ∷ xs) = bind x.slot x.cell (names_env xs)

abbrev pub world_at : Limits → Mode → PlainProgram → Env → World
world_at l m p env = record { functions = p.functions; cases = p.cases; texts = p.texts; budget = l.budget; int_range = l.int_range; top = env; mode = m }

-- a top-level set is defined, else ParUndefined at the set
abbrev pub defined_set : Span → Option (List Range) → Run Want
defined_set at None = stop kind.ParUndefined at (pos 0)
defined_set at (Some s) = give (Within s)

abbrev pub defined_index : Span → Option (List Range) → Run Want
defined_index at None = stop kind.ParUndefined at (pos 0)
defined_index at (Some s) = contiguous at (Some s)

abbrev pub set_want : Eval → Context → (Span → Option (List Range) → Run Want) → Option Tree → Env → Run Want
set_want go ctx test None env = give Anything
set_want go ctx test (Some e) env = go ctx e env >>= λ c. test (place_of e) (set_in c)

abbrev pub one_index : Eval → Context → Env → List Want → Option Tree → Run (List Want)
one_index go ctx env xs e = do
  x ← set_want go ctx defined_index e env
  give (xs ++ x ∷ [])

-- the cell of a decision variable: its domains' bounds, and the assigned value
abbrev pub variable : Mode → Assignment → ℕ → Domains → Option Cell → Declared
variable m a slot ds v = record { slot = slot; domains = ds; cell = Var (domains_bounds ds) (held m (a slot)); value = v }

-- a par value is defined and lies in its set, which par cells alone can tell
abbrev pub surely : Sure → Bool
surely s = s.par && s.is

abbrev pub par_name : Span → Decl → Cell → Bool → Run Declared
par_name at d c true = give (record { slot = d.slot; domains = Fixed; cell = c; value = Some c })
par_name at d c false = stop kind.ParUndefined at (pos 0)

abbrev pub valued : Mode → Assignment → Span → Decl → List Want → Want → Bool → Cell → Run Declared
valued m a at d ixs x true c = give (variable m a d.slot (domains_by_value d.ty.ty ixs x c) (Some c))
valued m a at d ixs x false c = par_name at d c (surely (suits x c))

-- the elements of an array type count, at the name, after the value and before its length is compared
abbrev pub declare_value : World → Eval → Context → Assignment → Decl → List Want → Want → Env → Option Tree → Run Declared
declare_value w go ctx a d ixs x env None = do
  spend w.budget d.span (declared_count ixs undefined)
  give (variable w.mode a d.slot (free_domains w.int_range d.ty.ty ixs x) None)
declare_value w go ctx a d ixs x env (Some e) = do
  c ← go ctx e env
  spend w.budget d.span (declared_count ixs c)
  f ← fitted (place_of e) ixs c
  valued w.mode a (place_of e) d ixs x d.ty.ty.var f

abbrev pub declare_in : World → Eval → Context → Assignment → Decl → Env → Run Declared
declare_in w go ctx a d env = do
  weigh w.mode 1
  ixs ← loop (one_index go ctx env) [] d.ty.index
  x ← set_want go ctx defined_set d.ty.set env
  declare_value w go ctx a d ixs x env d.value

abbrev pub declare : Context → Limits → Mode → Assignment → PlainProgram → List Declared → Decl → Run (List Declared)
declare ctx l m a p xs d = do
  x ← declare_in (world_at l m p (names_env xs)) (eval (world_at l m p (names_env xs)) levels) ctx a d (names_env xs)
  give (xs ++ x ∷ [])

abbrev pub with_decl : List Decl → Option Decl → List Decl
with_decl ds None = ds
with_decl ds (Some d) = d ∷ ds

-- the declarations in the order of evaluation, which the program lists by their places
abbrev pub ordered : List Decl → List ℕ → List Decl
ordered ds [] = []
ordered ds (k ∷ ks) = with_decl (ordered ds ks) (slice_get ds k)

-- ---- the whole model

-- what a walk gives: names, the constraints' cells, and the objective's
pub record Walked : Type 0 where
  pub names : List Declared
  pub constraints : List Cell
  pub objective : Option Cell

abbrev pub bounded : Option Span → Run (Unit {0})
bounded None = give tt
bounded (Some at) = stop kind.UnboundedSet at (pos 0)

abbrev pub constrain : World → Context → List Cell → Tree → Run (List Cell)
constrain w ctx cells e = do
  c ← eval w levels ctx e w.top
  give (cells ++ c ∷ [])

abbrev pub aimed : World → Context → Tree → Run (Option Cell)
aimed w ctx e = do
  c ← eval w levels ctx e w.top
  give (Some c)

abbrev pub aim : World → Context → Goal → Run (Option Cell)
aim w ctx program.satisfy = give None
aim w ctx (program.minimize e) = aimed w ctx e
aim w ctx (program.maximize e) = aimed w ctx e

-- in the context Positive, or Untested where no context is tested
abbrev pub walk : Context → Limits → Mode → Assignment → PlainProgram → Run Walked
walk ctx l m a p = do
  bounded (first_unbounded p)
  xs ← loop (declare ctx l m a p) [] (ordered p.decls p.order)
  cs ← loop (constrain (world_at l m p (names_env xs)) ctx) [] p.constraints
  o ← aim (world_at l m p (names_env xs)) ctx p.goal
  give (record { names = xs; constraints = cs; objective = o })
