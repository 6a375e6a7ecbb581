-- Calls of globals with their work.
use Rattle.std.proofs.Common.{◌≡◌, ◌∙◌, ℕ, ◌+◌, ◌≤◌, ◌^◌, Bool, true, false, ◌&&◌, List, [], ◌∷◌, Option, Some, None, Result, Ok, Err, map, subst, refl, sym, ap, arith, if◌then◌else◌}
use Rattle.mz_base.specs.declared.fault.Span.{Span}
use Rattle.mz_base.specs.declared.fault.Fault.{Fault}
use Rattle.mz_base.specs.declared.stop.Stop.{Stop}
use Rattle.mz_base.specs.declared.stop.Stop.TheVariants.{Refused, Memory}
use Rattle.mz_globals.specs.declared.global.Global.{Global}
use Rattle.mz_globals.specs.declared.checks.Refusal.{Refusal}
use Rattle.mz_globals.specs.declared.checks.Refusal.TheVariants.{Misfit, Negative, Outside}
use Rattle.mz_globals.specs.Table.{global_cost, global_ends, refusal_of}
use Rattle.mz_value.specs.Contents.{Content}
use Rattle.mz_meaning.specs.Runs.{Run, State, Answer, Out, Stopped, then_do, give, spend}
use Rattle.mz_meaning.specs.Cells.{Cell, Par, Var, Mode, Bare, held, is_par, all_par}
use Rattle.mz_meaning.specs.Globals.{call_cost, given_in, refused, global_bounds, global_cell, global_value}
use Rattle.mz_meaning.specs.Forms.{World, global_by}
use Rattle.mz_operations.specs.Bounds as bounds
use Rattle.mz_eval_globals.specs.Bounds.{bound_by}
use Rattle.mz_eval_nodes.proofs.WorkLaws.{sizes_seen}
use Rattle.mz_symbol.specs.Readings.{Reading}
use Rattle.mz_eval_cells.specs.declared.types.Known.{Known}
use Rattle.mz_eval_cells.specs.declared.types.Known.TheVariants as known
use Rattle.mz_eval_cells.specs.Views.{all_seen, cell_of, cells_of, seen}
use Rattle.mz_eval_cells.specs.Meets.{MeetsAt, Tells}

pub cost_is_small : (g : Global) (cs : List Cell) → call_cost g cs ≤ 2 ^ 62
cost_is_small g cs = omega arith

-- ---- par cells are the same under each reading

par_same : (r : Reading) (k : Known) → is_par (cell_of k) ≡ true → seen r k ≡ cell_of k
par_same r known.Undefined h = refl
par_same r (known.One i) h = refl
par_same r (known.Array ix xs) h = refl
par_same r (known.Var x) h = absurd (cc)
par_same r (known.Row ix xs) h = absurd (cc)
par_same r (known.Unshaped d) h = absurd (cc)

both_true : (a b : Bool) → (a && b) ≡ true → (a ≡ true) × (b ≡ true)
both_true true true h = (refl, refl)
both_true true false h = absurd (cc)
both_true false b h = absurd (cc)

pub all_same : (r : Reading) (ks : List Known) → all_par (cells_of ks) ≡ true → all_seen r ks ≡ cells_of ks
all_same r [] h = refl
all_same r (k ∷ ks) h =
    let p = both_true (is_par (cell_of k)) (all_par (cells_of ks)) h in
    ap (λ c. c ∷ all_seen r ks) (par_same r k p.0) ∙ ap (λ cs. cell_of k ∷ cs) (all_same r ks p.1)

-- ---- a call of par cells

-- it is par
abbrev par_call : Option Refusal → Option Content → Span → State → Answer Cell
par_call o v at s = then_do (refused o at s) (λ _. give (Par v))

calls_par : (m : Mode) (g : Global) (at : Span) (cs : List Cell) (s : State) → all_par cs ≡ true → global_cell m g at cs s ≡ par_call (refusal_of g (map given_in cs)) (global_value g cs) at s
calls_par m g at cs s h = ap (λ b. then_do (refused (refusal_of g (map given_in cs)) at s) (λ _. give (if b then Par (global_value g cs) else Var (global_bounds g cs) (held m (global_value g cs))))) h

gives_par : (o : Option Refusal) (v : Option Content) (at : Span) (s : State) (k : Known) → par_call o v at s ≡ Out (cell_of k) s → is_par (cell_of k) ≡ true
gives_par None v at s k h =
    let same : Par v ≡ cell_of k = cc in
    ap is_par (sym same)
gives_par (Some Misfit) v at s k h = absurd (cc)
gives_par (Some (Negative n)) v at s k h = absurd (cc)
gives_par (Some (Outside n)) v at s k h = absurd (cc)

-- what a call without values gives is what one under a reading gives
pub call_seen : (r : Reading) (g : Global) (at : Span) (ks : List Known) (x : Result Known Stop) (s : State) → all_par (cells_of ks) ≡ true → Tells cell_of x (global_cell Bare g at (cells_of ks)) → MeetsAt (seen r) x s (global_cell r.mode g at (all_seen r ks) s)
call_seen r g at ks (Ok k) s p h =
    let cs = cells_of ks in
    let told = sym (calls_par Bare g at cs s p) ∙ h.by s in
    let same : seen r k ≡ cell_of k = par_same r k (gives_par (refusal_of g (map given_in cs)) (global_value g cs) at s k told) in
    ap (λ xs. global_cell r.mode g at xs s) (all_same r ks p)
    ∙ calls_par r.mode g at cs s p
    ∙ told
    ∙ ap (λ c. Out c s) (sym same)
call_seen r g at ks (Err (Refused f)) s p h =
    let cs = cells_of ks in
    ap (λ xs. global_cell r.mode g at xs s) (all_same r ks p)
    ∙ calls_par r.mode g at cs s p
    ∙ sym (calls_par Bare g at cs s p)
    ∙ h.by s
call_seen r g at ks (Err Memory) s p h = tt

-- ---- a call with a var argument

par_seen : (r : Reading) (k : Known) → is_par (seen r k) ≡ is_par (cell_of k)
par_seen r known.Undefined = refl
par_seen r (known.One i) = refl
par_seen r (known.Array ix xs) = refl
par_seen r (known.Var x) = refl
par_seen r (known.Row ix xs) = refl
par_seen r (known.Unshaped d) = refl

all_par_seen : (r : Reading) (ks : List Known) → all_par (all_seen r ks) ≡ all_par (cells_of ks)
all_par_seen r [] = refl
all_par_seen r (k ∷ ks) = ap (λ b. b && all_par (all_seen r ks)) (par_seen r k) ∙ ap (λ b. is_par (cell_of k) && b) (all_par_seen r ks)

given_seen : (r : Reading) (k : Known) → given_in (seen r k) ≡ given_in (cell_of k)
given_seen r known.Undefined = refl
given_seen r (known.One i) = refl
given_seen r (known.Array ix xs) = refl
given_seen r (known.Var x) = refl
given_seen r (known.Row ix xs) = refl
given_seen r (known.Unshaped d) = refl

all_given_seen : (r : Reading) (ks : List Known) → map given_in (all_seen r ks) ≡ map given_in (cells_of ks)
all_given_seen r [] = refl
all_given_seen r (k ∷ ks) = ap (λ c. c ∷ map given_in (all_seen r ks)) (given_seen r k) ∙ ap (λ cs. given_in (cell_of k) ∷ cs) (all_given_seen r ks)

pub cost_seen : (r : Reading) (g : Global) (ks : List Known) → call_cost g (all_seen r ks) ≡ call_cost g (cells_of ks)
cost_seen r g ks = ap (global_cost g) (sym (sizes_seen r ks))

-- where it is refused for nothing
bound_is : (o : Option Refusal) (at : Span) (e b : bounds.Bound) (s : State) → then_do (refused o at s) (λ _. give e) ≡ Out b s → (o ≡ None) × (e ≡ b)
bound_is None at e b s h = (refl, cc)
bound_is (Some Misfit) at e b s h = absurd (cc)
bound_is (Some (Negative n)) at e b s h = absurd (cc)
bound_is (Some (Outside n)) at e b s h = absurd (cc)

bound_stops : {A : Type 0} (o : Option Refusal) (at : Span) (e : bounds.Bound) (f : Fault) (s : State) (m : Run A) → then_do (refused o at s) (λ _. give e) ≡ Stopped f → then_do (refused o at s) (λ _. m) ≡ Stopped f
bound_stops None at e f s m h = absurd (cc)
bound_stops (Some Misfit) at e f s m h = cc
bound_stops (Some (Negative n)) at e f s m h = cc
bound_stops (Some (Outside n)) at e f s m h = cc

call_by_parts : (r : Reading) (g : Global) (at : Span) (ks : List Known) (s : State) → all_par (cells_of ks) ≡ false
    → global_cell r.mode g at (all_seen r ks) s ≡ then_do (refused (refusal_of g (map given_in (cells_of ks))) at s) (λ _. give (Var (bounds.one (bounds.number (global_ends g (map given_in (cells_of ks))))) (held r.mode (global_value g (all_seen r ks)))))
call_by_parts r g at ks s h =
    let v = held r.mode (global_value g (all_seen r ks)) in
    ap (λ b. then_do (refused (refusal_of g (map given_in (all_seen r ks))) at s) (λ _. give (if b then Par (global_value g (all_seen r ks)) else Var (global_bounds g (all_seen r ks)) v))) (all_par_seen r ks ∙ h)
    ∙ ap (λ gs. then_do (refused (refusal_of g gs) at s) (λ _. give (Var (bounds.one (bounds.number (global_ends g gs))) v))) (all_given_seen r ks)

placed : (b : bounds.Bound) (v w : Option Content) (c : Cell) (s u : State) → Out w s ≡ Out v u → c ≡ Var (bounds.one b) v → Out (Var (bounds.one b) w) s ≡ Out c u
placed b v w c s u h e = cc

pub var_gives : (r : Reading) (g : Global) (at : Span) (ks : List Known) (b : bounds.Bound) (v : Option Content) (k : Known) (s u : State) → all_par (cells_of ks) ≡ false → bound_by g (map given_in (cells_of ks)) at s ≡ Out b s → Out (held r.mode (global_value g (all_seen r ks))) s ≡ Out v u → seen r k ≡ Var (bounds.one b) v → global_cell r.mode g at (all_seen r ks) s ≡ Out (seen r k) u
var_gives r g at ks b v k s u h e d c =
    let gs = map given_in (cells_of ks) in
    let w = held r.mode (global_value g (all_seen r ks)) in
    let p = bound_is (refusal_of g gs) at (bounds.number (global_ends g gs)) b s e in
    call_by_parts r g at ks s h
    ∙ ap (λ o. then_do (refused o at s) (λ _. give (Var (bounds.one (bounds.number (global_ends g gs))) w))) p.0
    ∙ ap (λ x. Out (Var (bounds.one x) w) s) p.1
    ∙ placed b v w (seen r k) s u d c

pub var_stops : (r : Reading) (g : Global) (at : Span) (ks : List Known) (f : Fault) (s : State) → all_par (cells_of ks) ≡ false → bound_by g (map given_in (cells_of ks)) at s ≡ Stopped f → global_cell r.mode g at (all_seen r ks) s ≡ Stopped f
var_stops r g at ks f s h e =
    let gs = map given_in (cells_of ks) in
    call_by_parts r g at ks s h
    ∙ bound_stops (refusal_of g gs) at (bounds.number (global_ends g gs)) f s (give (Var (bounds.one (bounds.number (global_ends g gs))) (held r.mode (global_value g (all_seen r ks))))) e

pub var_ends : {B : Type 0} (tell : B → bounds.Bound) (r : Reading) (g : Global) (at : Span) (ks : List Known) (x : Stop) (s : State) → all_par (cells_of ks) ≡ false → Tells tell (Err x) (bound_by g (map given_in (cells_of ks)) at) → MeetsAt {A = Known} (seen r) (Err x) s (global_cell r.mode g at (all_seen r ks) s)
var_ends tell r g at ks (Refused f) s h t = var_stops r g at ks f s h (t.by s)
var_ends tell r g at ks Memory s h t = tt

-- ---- with its work

pub call_goes : {A : Type 0} (see : A → Cell) (w : World) (at : Span) (cells : List Cell) (g : Global) (cost : ℕ) (s u v : State) (x : Result A Stop) → cost ≡ call_cost g cells → spend w.budget at (1 + cost) s ≡ Out tt u → MeetsAt see x v (global_cell w.mode g at cells u) → MeetsAt see x v (global_by w at cells (Some g) s)
call_goes see w at cells g cost s u v x e h k =
    subst (MeetsAt see x v)
    (sym (ap (λ m. then_do (spend w.budget at (1 + m) s) (λ _. global_cell w.mode g at cells)) (sym e)
    ∙ ap (λ a. then_do a (λ _. global_cell w.mode g at cells)) h))
    k

-- where the work isn't within the budget
pub call_stops : {A B : Type 0} (see : A → Cell) (tell : B → Unit {0}) (w : World) (at : Span) (cells : List Cell) (g : Global) (cost : ℕ) (s v : State) (e : Stop) → cost ≡ call_cost g cells → MeetsAt tell (Err e) v (spend w.budget at (1 + cost) s) → MeetsAt see (Err e) v (global_by w at cells (Some g) s)
call_stops see tell w at cells g cost s v (Refused f) e h =
    ap (λ m. then_do (spend w.budget at (1 + m) s) (λ _. global_cell w.mode g at cells)) (sym e)
    ∙ ap (λ a. then_do a (λ _. global_cell w.mode g at cells)) h
call_stops see tell w at cells g cost s v Memory e h = tt
