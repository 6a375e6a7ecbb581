-- The kinds of faults at which a walk over a model stops.
use Rattle.std.proofs.Common.{◌≡◌, ℕ, ◌+◌, pos, Bool, true, false, List, [], ◌∷◌, Option, Some, None, refl, sym, ap, ◌∙◌, nat_lt, if◌then◌else◌}
use Rattle.mz_base.specs.declared.fault.Span.{Span}
use Rattle.mz_base.specs.declared.fault.Fault.{Fault}
use Rattle.mz_base.specs.declared.kind.Kind.{Kind}
use Rattle.mz_base.specs.declared.kind.Kind.TheVariants as kind
use Rattle.mz_value.specs.Ranges.{Range}
use Rattle.mz_value.specs.Contents.{Content}
use Rattle.mz_core.specs.Program.{PlainProgram, Goal, satisfy, minimize, maximize}
use Rattle.mz_core.specs.Tree.{Tree, Decl, place_of}
use Rattle.mz_operations.specs.Arrays.{is_contiguous}
use Rattle.mz_meaning.specs.Runs.{Run, State, Answer, Out, Stopped, then_do, fault, give, stop, spend, loop, weigh, start}
use Rattle.mz_meaning.specs.Cells.{Cell, Mode, Bare, Given, Env, set_in, undefined, length_of}
use Rattle.mz_meaning.specs.Arrays.{Want, suits, fitted, fitted_to, fits_shape, own_ranges, no_missing, declared_count}
use Rattle.mz_meaning.specs.Contexts.{Untested, Positive}
use Rattle.mz_meaning.specs.Forms.{World}
use Rattle.mz_meaning.specs.Kinds.{is_evaluation_kind, StopsAtEvaluation}
use Rattle.mz_meaning.specs.Evaluation.{eval}
use Rattle.mz_meaning.specs.Unbounded.{first_unbounded}
use Rattle.mz_meaning.specs.Walk as walks
use Rattle.mz_meaning.specs.Walk.{Limits, Assignment, Declared, names_env, world_at, declare, ordered, levels, Walked, walk}
use Rattle.mz_meaning.proofs.Causes.{eval_well}
use Rattle.mz_meaning_laws.specs.Outlines.{outline_walked}
use Rattle.mz_meaning_laws.specs.Ties.{is_local_kind}
use Rattle.mz_meaning_laws.specs.Independence.{FitsUntested}
use Rattle.mz_meaning_laws.proofs.Consequences.{walks_fit_untested}
use Rattle.mz_model_meaning.specs.Refusals.{is_walk_kind}

-- ---- runs that stop at such kinds alone

abbrev StopsAtWalk : {A : Type 0} → Answer A → Type 0
StopsAtWalk (Out x s) = Unit {0}
StopsAtWalk (Stopped f) = is_walk_kind f.kind ≡ true

record IsWalk {A : Type 0} (m : Run A) : Type 0 where
  by : (s : State) → StopsAtWalk (m s)

walk_kind : (k : Kind) → is_evaluation_kind k ≡ true → is_walk_kind k ≡ true
walk_kind kind.ParUndefined h = refl
walk_kind kind.UnboundedSet h = refl
walk_kind kind.FreeInContext h = refl
walk_kind k h = h

then_walks : {A B : Type 0} {m : Run A} {go : A → Run B} → IsWalk m → ((x : A) → IsWalk (go x)) → IsWalk (λ s. then_do (m s) go)
then_walks {A = A} {B = B} {m = m} {go = go} h k = record { by = λ s. on (m s) (h.by s) }
  where
    on : (v : Answer A) → StopsAtWalk v → StopsAtWalk (then_do v go)
    on (Out x s) i = (k x).by s
    on (Stopped f) i = i

give_walks : {A : Type 0} (x : A) → IsWalk (give x)
give_walks x = record { by = λ s. tt }

stop_walks : {A : Type 0} (k : Kind) (at : Span) → is_walk_kind k ≡ true → IsWalk {A = A} (stop k at (pos 0))
stop_walks k at h = record { by = λ s. h }

if_walks : {A : Type 0} (b : Bool) {m n : Run A} → IsWalk m → IsWalk n → IsWalk (if b then m else n)
if_walks true h k = h
if_walks false h k = k

spent_walks : (b : Bool) (f : Fault) (s : State) → is_walk_kind f.kind ≡ true → StopsAtWalk {A = Unit {0}} (if b then Stopped f else Out tt s)
spent_walks true f s h = h
spent_walks false f s h = tt

spend_walks : (b : ℕ) (at : Span) (n : ℕ) → IsWalk (spend b at n)
spend_walks b at n = record { by = λ s. spent_walks (nat_lt b (s.work + n)) (fault kind.Budget at (pos (b + 1))) (record { work = s.work + n; taken = s.taken; weight = s.weight }) refl }

weigh_walks : (m : Mode) (n : ℕ) → IsWalk (weigh m n)
weigh_walks m n = record { by = λ s. tt }

loop_walks : {A S : Type 0} (step : S → A → Run S) → ((acc : S) (x : A) → IsWalk (step acc x)) → (acc : S) (xs : List A) → IsWalk (loop step acc xs)
loop_walks step h acc [] = give_walks acc
loop_walks step h acc (x ∷ xs) = then_walks (h acc x) (λ next. loop_walks step h next xs)

eval_walks : (w : World) (e : Tree) (env : Env) → IsWalk (eval w levels Untested e env)
eval_walks w e env = record { by = λ s. on (eval w levels Untested e env s) ((eval_well w levels e env).by s) }
  where
    on : (v : Answer Cell) → StopsAtEvaluation v → StopsAtWalk v
    on (Out x s) h = tt
    on (Stopped f) h = walk_kind f.kind h

-- ---- declarations

set_walks : (at : Span) (s : Option (List Range)) → IsWalk (walks.defined_set at s)
set_walks at None = stop_walks kind.ParUndefined at refl
set_walks at (Some s) = give_walks _

index_walks : (at : Span) (s : Option (List Range)) → IsWalk (walks.defined_index at s)
index_walks at None = stop_walks kind.ParUndefined at refl
index_walks at (Some s) = if_walks (is_contiguous s) (give_walks _) (stop_walks kind.IndexMismatch at refl)

want_walks : (w : World) (test : Span → Option (List Range) → Run Want) → ((at : Span) (s : Option (List Range)) → IsWalk (test at s)) → (e : Option Tree) (env : Env) → IsWalk (walks.set_want (eval w levels) Untested test e env)
want_walks w test h None env = give_walks _
want_walks w test h (Some e) env = then_walks (eval_walks w e env) (λ c. h (place_of e) (set_in c))

fitted_to_walks : (at : Span) (xs : List Want) (own : List Range) (n : Option ℕ) (c : Cell) → IsWalk (fitted_to at xs own n c)
fitted_to_walks at xs own None c = give_walks c
fitted_to_walks at xs own (Some n) c = if_walks (fits_shape xs own n) (give_walks _) (stop_walks kind.IndexMismatch at refl)

fitted_walks : (at : Span) (xs : List Want) (c : Cell) → IsWalk (fitted at xs c)
fitted_walks at [] c = give_walks c
fitted_walks at (x ∷ xs) c = if_walks (no_missing (x ∷ xs)) (fitted_to_walks at (x ∷ xs) (own_ranges c) (length_of c) c) (give_walks c)

par_walks : (at : Span) (d : Decl) (c : Cell) (b : Bool) → IsWalk (walks.par_name at d c b)
par_walks at d c true = give_walks _
par_walks at d c false = stop_walks kind.ParUndefined at refl

valued_walks : (m : Mode) (a : Assignment) (at : Span) (d : Decl) (ixs : List Want) (x : Want) (v : Bool) (c : Cell) → IsWalk (walks.valued m a at d ixs x v c)
valued_walks m a at d ixs x true c = give_walks _
valued_walks m a at d ixs x false c = par_walks at d c (walks.surely (suits x c))

value_walks : (w : World) (a : Assignment) (d : Decl) (ixs : List Want) (x : Want) (env : Env) (e : Option Tree) → IsWalk (walks.declare_value w (eval w levels) Untested a d ixs x env e)
value_walks w a d ixs x env None = then_walks (spend_walks w.budget d.span (declared_count ixs undefined)) (λ u. give_walks _)
value_walks w a d ixs x env (Some e) =
    then_walks (eval_walks w e env) (λ c. then_walks (spend_walks w.budget d.span (declared_count ixs c)) (λ u. then_walks (fitted_walks (place_of e) ixs c) (λ f. valued_walks w.mode a (place_of e) d ixs x d.ty.ty.var f)))

declare_in_walks : (w : World) (a : Assignment) (d : Decl) (env : Env) → IsWalk (walks.declare_in w (eval w levels) Untested a d env)
declare_in_walks w a d env =
    then_walks (weigh_walks w.mode 1) (λ u.
    then_walks (loop_walks (walks.one_index (eval w levels) Untested env) (λ acc e. then_walks (want_walks w walks.defined_index index_walks e env) (λ x. give_walks _)) [] d.ty.index) (λ ixs.
    then_walks (want_walks w walks.defined_set set_walks d.ty.set env) (λ x. value_walks w a d ixs x env d.value)))

declare_walks : (l : Limits) (m : Mode) (a : Assignment) (p : PlainProgram) (xs : List Declared) (d : Decl) → IsWalk (declare Untested l m a p xs d)
declare_walks l m a p xs d = then_walks (declare_in_walks (world_at l m p (names_env xs)) a d (names_env xs)) (λ x. give_walks _)

-- ---- the whole

bounded_walks : (s : Option Span) → IsWalk (walks.bounded s)
bounded_walks None = give_walks tt
bounded_walks (Some at) = stop_walks kind.UnboundedSet at refl

aimed_walks : (w : World) (e : Tree) → IsWalk (walks.aimed w Untested e)
aimed_walks w e = then_walks (eval_walks w e w.top) (λ c. give_walks _)

aim_walks : (w : World) (g : Goal) → IsWalk (walks.aim w Untested g)
aim_walks w satisfy = give_walks _
aim_walks w (minimize e) = aimed_walks w e
aim_walks w (maximize e) = aimed_walks w e

untested_walks : (p : PlainProgram) (l : Limits) (m : Mode) (a : Assignment) → IsWalk (walk Untested l m a p)
untested_walks p l m a =
    then_walks (bounded_walks (first_unbounded p)) (λ u.
    then_walks (loop_walks (declare Untested l m a p) (declare_walks l m a p) [] (ordered p.decls p.order)) (λ xs.
    then_walks (loop_walks (walks.constrain (world_at l m p (names_env xs)) Untested) (λ acc e. then_walks (eval_walks (world_at l m p (names_env xs)) e (names_env xs)) (λ c. give_walks _)) [] p.constraints) (λ cs.
    then_walks (aim_walks (world_at l m p (names_env xs)) p.goal) (λ o. give_walks _))))

-- ---- a walk that tests contexts stops where the other does, or at a free local in a wrong place

local_kind : (k : Kind) → is_local_kind k ≡ true → is_walk_kind k ≡ true
local_kind kind.FreeInContext h = refl
local_kind k h = absurd (cc)

kind_beside : (bare given : Answer Walked) (f : Fault) → StopsAtWalk bare → FitsUntested outline_walked bare given → given ≡ Stopped f → is_walk_kind f.kind ≡ true
kind_beside bare (Out x s) f stops beside e = absurd (cc)
kind_beside (Out y t) (Stopped g) f stops beside e = let same : g ≡ f = cc in ap (λ (f : Fault). is_walk_kind f.kind) (sym same) ∙ local_kind g.kind beside
kind_beside (Stopped d) (Stopped g) f stops beside e = let same : g ≡ f = cc in ap (λ (f : Fault). is_walk_kind f.kind) (sym same) ∙ by (is_local_kind g.kind) refl
  where
    by : (b : Bool) → is_local_kind g.kind ≡ b → is_walk_kind g.kind ≡ true
    by true local = local_kind g.kind local
    by false other = ap (λ (f : Fault). is_walk_kind f.kind) (sym (beside other)) ∙ stops

-- a walk with values stops at these kinds alone
pub kinds : (l : Limits) (p : PlainProgram) (a : Assignment) (c : ℕ → Content) (f : Fault) → walk Positive l (Given c) a p start ≡ Stopped f → is_walk_kind f.kind ≡ true
kinds l p a c f e = kind_beside (walk Untested l Bare a p start) (walk Positive l (Given c) a p start) f ((untested_walks p l Bare a).by start) (walks_fit_untested l p a a c) e
