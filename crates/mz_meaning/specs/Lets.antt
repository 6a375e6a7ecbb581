-- Declared sets, lets and free locals.
use Rattle.std.specs.Prelude.{ℕ, zero, suc, ℤ, pos, Bool, true, not, ◌&&◌, List, [], ◌∷◌, ◌++◌, length, replicate, Option, Some, None, if◌then◌else◌}
use Rattle.mz_base.specs.declared.fault.Span.{Span}
use Rattle.mz_base.specs.declared.kind.Kind.TheVariants as kind
use Rattle.mz_value.specs.Ranges.{Range}
use Rattle.mz_value.specs.Contents.{Content, contents}
use Rattle.mz_value.specs.Contents as values
use Rattle.mz_core.specs.Types.{PlainType}
use Rattle.mz_core.specs.Tree.{Tree, Decl, Item, declares, constrains, place_of}
use Rattle.mz_operations.specs.Arrays.{place_count, is_contiguous}
use Rattle.mz_operations.specs.Bounds.{Bound}
use Rattle.mz_operations.specs.Bounds as bounds
use Rattle.mz_meaning.specs.Runs.{Run, Out, ◌>>=◌, ◌>>◌, give, stop, spend, loop, noted, weigh}
use Rattle.mz_meaning.specs.Cells.{Cell, Var, Mode, Blank, Given, held, Env, bind_all, undefined, empty_bound, is_par, is_true, value_of, set_in, Sure, sure, unsure, both_sure, guarded}
use Rattle.mz_meaning.specs.Domains.{Domain, is_empty_domain, domain_bound, domain_over, default_set}
use Rattle.mz_meaning.specs.Arrays.{Want, Anything, Missing, Within, want_of, suits, has_set, is_own, is_missing, declared_ranges, declared_count, fitted}
use Rattle.mz_meaning.specs.Contexts.{Context, Untested, Positive, Other}
use Rattle.mz_meaning.specs.Forms.{World, Eval, done}

-- ---- declared sets: they keep the context, and have a nesting one more than the let's or the call's

abbrev pub want : Eval → Context → Option Tree → Env → Run Want
want go ctx None env = give Anything
want go ctx (Some e) env = do
  c ← go ctx e env
  give (want_of (set_in c))

-- A DECLARED INDEX SET IS CONTIGUOUS, tested as it is evaluated
abbrev pub contiguous : Span → Option (List Range) → Run Want
contiguous at None = give Missing
contiguous at (Some s) = if is_contiguous s then give (Within s) else stop kind.IndexMismatch at (pos 0)

abbrev pub index_want : Eval → Context → Option Tree → Env → Run Want
index_want go ctx None env = give Anything
index_want go ctx (Some e) env = go ctx e env >>= λ c. contiguous (place_of e) (set_in c)

abbrev pub one_index : Eval → Context → Env → List Want → Option Tree → Run (List Want)
one_index go ctx env xs e = do
  x ← index_want go ctx e env
  give (xs ++ x ∷ [])

abbrev pub index_wants : Eval → Context → List (Option Tree) → Env → Run (List Want)
index_wants go ctx es env = loop (one_index go ctx env) [] es

abbrev pub all_have_sets : List Want → Sure
all_have_sets [] = sure
all_have_sets (x ∷ xs) = both_sure (has_set x) (all_have_sets xs)

-- a value under its index sets and its set: it takes the index sets, and whether it is there and lies in the set is told
abbrev pub kept : Span → List Want → Want → Cell → Run (Cell × Sure)
kept at ixs x c = do
  f ← fitted at ixs c
  give (f, both_sure (all_have_sets ixs) (suits x f))

-- ---- names so far, with their cells, and whether all that is declared holds
pub record Names : Type 0 where
  pub slots : List ℕ
  pub cells : List Cell
  pub holds : Sure

abbrev pub nothing_bound : Names
nothing_bound = record { slots = []; cells = []; holds = sure }

abbrev pub names_in : Names → Env → Env
names_in b env = bind_all b.slots b.cells env

abbrev pub with_local : Names → ℕ → Cell × Sure → Names
with_local b slot x = record { slots = b.slots ++ slot ∷ []; cells = b.cells ++ x.0 ∷ []; holds = both_sure b.holds x.1 }

-- ---- FREE LOCALS. Each evaluation evaluates the sets, counts the elements, tests the context, and then takes a choice for each element, in the order of the places

abbrev pub choice_at : Mode → ℕ → Option Content
choice_at (Blank n) k = None
choice_at (Given f) k = Some (f k)

abbrev pub choices_from : Mode → ℕ → ℕ → List Content
choices_from (Blank n) k count = []
choices_from (Given f) k zero = []
choices_from (Given f) k (suc count) = f k ∷ choices_from (Given f) (suc k) count

-- the domain of each element; none where a set is undefined
abbrev pub local_domain : ℤ → PlainType → Want → Option Domain
local_domain n t Anything = Some (domain_over t (default_set n t.base))
local_domain n t Missing = None
local_domain n t (Within u) = Some (domain_over t u)

abbrev pub unless_empty : Option Domain → Option Domain
unless_empty None = None
unless_empty (Some d) = if is_empty_domain d then None else Some d

-- nothing is taken, and the let is undefined; an array has its places all the same
abbrev pub no_choice : PlainType → Run (Cell × Sure)
no_choice t = give (Var (bounds.one (empty_bound t)) None, unsure)

abbrev pub no_choices : PlainType → List Range → Run (Cell × Sure)
no_choices t ix = give (Var (bounds.many ix (replicate (place_count ix) (empty_bound t))) None, unsure)

abbrev pub choose : Mode → PlainType → Option Domain → Run (Cell × Sure)
choose m t None = no_choice t
choose m t (Some d) = λ s. Out (Var (bounds.one (domain_bound d)) (held m (choice_at m (length s.taken))), sure) (noted m (d ∷ []) 0 s)

abbrev pub places_cell : Mode → List Range → ℕ → Bound → ℕ → Cell
places_cell m ix count b k = Var (bounds.many ix (replicate count b)) (held m (Some (values.array ix (contents (choices_from m k count)))))

-- for each place; an array without places takes nothing, and is there also where the domain is empty
abbrev pub choose_places : Mode → PlainType → List Range → ℕ → Option Domain → Run (Cell × Sure)
choose_places m t ix zero d = give (Var (bounds.many ix []) (held m (Some (values.array ix values.none))), sure)
choose_places m t ix (suc n) None = no_choices t ix
choose_places m t ix (suc n) (Some d) = λ s. Out (places_cell m ix (suc n) (domain_bound d) (length s.taken), sure) (noted m (replicate (suc n) d) 0 s)

abbrev pub free_array : Mode → PlainType → List Range → Want → Option Domain → Run (Cell × Sure)
free_array m t ix Missing d = no_choices t ix
free_array m t ix Anything d = choose_places m t ix (place_count ix) d
free_array m t ix (Within u) d = choose_places m t ix (place_count ix) d

-- an index `int` has no range here: such a declaration is refused before anything is evaluated
abbrev pub all_declared : List Want → Bool
all_declared [] = true
all_declared (x ∷ xs) = not (is_own x) && (not (is_missing x) && all_declared xs)

abbrev pub chosen : Mode → ℤ → PlainType → List Want → Want → Run (Cell × Sure)
chosen m n t [] x = choose m t (unless_empty (local_domain n t x))
chosen m n t (r ∷ rs) x =
    if all_declared (r ∷ rs)
    then free_array m t (declared_ranges (r ∷ rs) []) x (unless_empty (local_domain n t x))
    else no_choices t (declared_ranges (r ∷ rs) [])

-- in a wrong place it is refused at the first token of its declaration, which is its type's
abbrev pub free_local : World → Context → Span → PlainType → List Want → Want → Run (Cell × Sure)
free_local w Untested at t ixs x = chosen w.mode w.int_range t ixs x
free_local w Positive at t ixs x = chosen w.mode w.int_range t ixs x
free_local w Other at t ixs x = stop kind.FreeInContext at (pos 0)

-- ---- a declaration: its index sets, its set, and its value. The elements of its array type count at its name: after the value, and of a free local before its choices

abbrev pub given_value : World → Eval → Context → Decl → List Want → Want → Env → Option Tree → Run (Cell × Sure)
given_value w go ctx d ixs x env None = spend w.budget d.span (declared_count ixs undefined) >> free_local w ctx d.ty.span d.ty.ty ixs x
given_value w go ctx d ixs x env (Some e) = do
  c ← go ctx e env
  spend w.budget d.span (declared_count ixs c)
  kept (place_of e) ixs x c

abbrev pub declared : World → Eval → Context → Decl → Env → Run (Cell × Sure)
declared w go ctx d env = do
  weigh w.mode 1
  ixs ← index_wants go ctx d.ty.index env
  x ← want go ctx d.ty.set env
  given_value w go ctx d ixs x env d.value

-- ---- LET: undefined where a constraint is false, or a declared value or set is undefined, or a value lies outside its set

abbrev pub constrained : Names → Cell → Names
constrained b c = record { slots = b.slots; cells = b.cells; holds = both_sure b.holds (record { par = is_par c; is = is_true (value_of c) }) }

abbrev pub let_item : World → Eval → Context → Env → Names → Item → Run Names
let_item w go ctx env b (constrains e) = do
  c ← go ctx e (names_in b env)
  give (constrained b c)
let_item w go ctx env b (declares d) = do
  x ← declared w go ctx d (names_in b env)
  give (with_local b d.slot x)

abbrev pub let_of : World → Eval → Context → List Item → Tree → Span → PlainType → Env → Run Cell
let_of w go ctx items body at t env = do
  b ← loop (let_item w go ctx env) nothing_bound items
  c ← go ctx body (names_in b env)
  done w at (guarded w.mode t b.holds c)
