-- The walk over a whole model: a walk with values has the outline that a blank walk gives, under any assignment.
use Rattle.std.proofs.Common.{◌≡◌, ℕ, zero, suc, pos, Bool, true, false, ◌&&◌, List, [], ◌∷◌, ◌++◌, flat_map, slice_get, Option, Some, None, refl, ap, ◌∙◌}
use Rattle.mz_base.specs.declared.fault.Span.{Span}
use Rattle.mz_base.specs.declared.kind.Kind.TheVariants as kind
use Rattle.mz_value.specs.Ranges.{Range}
use Rattle.mz_core.specs.Types.{PlainType}
use Rattle.mz_core.specs.Program.{Goal, PlainProgram}
use Rattle.mz_core.specs.Program as program
use Rattle.mz_core.specs.Tree.{Tree, Decl, place_of}
use Rattle.mz_meaning.specs.Runs.{Run, then_do, loop}
use Rattle.mz_meaning.specs.Cells.{Cell, Par, Var, Unshaped, Mode, Blank, Env, set_in, Sure, undefined}
use Rattle.mz_meaning.specs.Arrays.{Want, suits, fitted, declared_count}
use Rattle.mz_meaning.specs.Contexts.{Context}
use Rattle.mz_meaning.specs.Forms.{World, Eval}
use Rattle.mz_meaning.specs.Unbounded.{first_unbounded}
use Rattle.mz_meaning.specs.Walk as walks
use Rattle.mz_meaning.specs.Walk.{Limits, Assignment, Declared, walk, names_env, world_at, levels}
use Rattle.mz_meaning.specs.Evaluation.{eval}
use Rattle.mz_meaning.specs.Solutions.{Each}
use Rattle.mz_meaning_laws.specs.FreeLocals.{free_in, free_in_decl, free_in_function, free_in_goal, free_locals}
use Rattle.mz_meaning_laws.specs.Outlines.{outline, outline_sure, outline_if, outline_declared, outline_all_declared, outline_walked, blank_world, HasOutlines}
use Rattle.mz_meaning_laws.specs.Ties.{Tie, Ties, HasOutline, HasNotes, Allows, AllowsTree, AllowsIf, AllowsDecl, AllowsFound, EvalHasOutline}
use Rattle.mz_meaning_laws.proofs.Joins.{then_outlined, give_outlined, stop_outlined, at_same, same, spend_outlined, spend_same, loop_each_outlined, weigh_outlined}
use Rattle.mz_meaning_laws.proofs.Cells.{set_outline, push_outline, bind_outlined}
use Rattle.mz_meaning_laws.proofs.Allowed.{allows_left, allows_right, each_flat, each_decl, functions_allow}
use Rattle.mz_meaning_laws.proofs.Arrays.{suits_outline, count_outline, fitted_outlined}
use Rattle.mz_meaning_laws.proofs.Lets.{contiguous_outlined}
use Rattle.mz_meaning_laws.proofs.Evaluation.{eval_outlined}

-- ---- declared sets, which have to be defined

defined_set_outlined : {t : Tie} {n : Bool} (at : Span) (s : Option (List Range)) → HasOutline t n (same {A = Want}) (walks.defined_set at s) (walks.defined_set at s)
defined_set_outlined at None = stop_outlined kind.ParUndefined at (pos 0)
defined_set_outlined at (Some s) = give_outlined refl

defined_index_outlined : {t : Tie} {n : Bool} (at : Span) (s : Option (List Range)) → HasOutline t n (same {A = Want}) (walks.defined_index at s) (walks.defined_index at s)
defined_index_outlined at None = stop_outlined kind.ParUndefined at (pos 0)
defined_index_outlined at (Some s) = contiguous_outlined at (Some s)

set_want_outlined : {t : Tie} {n : Bool} {w : World} {top : Env} {go go' : Eval} → EvalHasOutline t n w top go go' → {c d : Context} → Ties t c d → (test : Span → Option (List Range) → Run Want) → ((at : Span) (s : Option (List Range)) → HasOutline t n (same {A = Want}) (test at s) (test at s)) → (e : Option Tree) → AllowsIf t e → {env env' : Env} → HasOutlines env env' → HasOutline t n (same {A = Want}) (walks.set_want go c test e env) (walks.set_want go' d test e env')
set_want_outlined g h test k None z i = give_outlined refl
set_want_outlined g h test k (Some e) z i = then_outlined _ (g.by h e z i) (λ x. at_same (λ s. test (place_of e) s) (set_outline x) (k (place_of e) (set_in x)))

index_sets_outlined : {t : Tie} {n : Bool} {w : World} {top : Env} {go go' : Eval} → EvalHasOutline t n w top go go' → {c d : Context} → Ties t c d → (es : List (Option Tree)) → Each (AllowsIf t) es → {env env' : Env} → HasOutlines env env' → HasOutline t n (same {A = List Want}) (loop (walks.one_index go c env) [] es) (loop (walks.one_index go' d env') [] es)
index_sets_outlined {t = t} {go = go} {go' = go'} g {c = c} {d = d} h es z {env = env} {env' = env'} i = loop_each_outlined (AllowsIf t) (walks.one_index go c env) (walks.one_index go' d env') (λ acc e y. then_outlined _ (set_want_outlined g h walks.defined_index defined_index_outlined e y i) (λ x. give_outlined refl)) [] es z

-- ---- declarations

domains_outline : (ty : PlainType) (ixs : List Want) (x : Want) (c : Cell) → walks.domains_by_value ty ixs x (outline c) ≡ walks.domains_by_value ty ixs x c
domains_outline ty ixs x (Par v) = refl
domains_outline ty ixs x (Var b v) = refl
domains_outline ty ixs x (Unshaped d) = refl

surely_outline : (s : Sure) → walks.surely (outline_sure s) ≡ walks.surely s
surely_outline s = go s.par s.is
  where
    go : (p i : Bool) → (p && (p && i)) ≡ (p && i)
    go true i = refl
    go false i = refl

par_name_outlined : {t : Tie} {n : Bool} (at : Span) (p : Decl) (c : Cell) (b : Bool) → HasOutline t n outline_declared (walks.par_name at p c b) (walks.par_name at p (outline c) b)
par_name_outlined at p c true = give_outlined refl
par_name_outlined at p c false = stop_outlined kind.ParUndefined at (pos 0)

valued_outlined : {t : Tie} {n : Bool} (m : Mode) (a b : Assignment) (at : Span) (p : Decl) (ixs : List Want) (x : Want) (var : Bool) (c : Cell) → HasOutline t n outline_declared (walks.valued m a at p ixs x var c) (walks.valued (Blank n) b at p ixs x var (outline c))
valued_outlined {n = n} m a b at p ixs x true c = give_outlined (ap (λ ds. walks.variable (Blank n) b p.slot ds (Some (outline c))) (domains_outline p.ty.ty ixs x c))
valued_outlined m a b at p ixs x false c = at_same (λ s. walks.par_name at p (outline c) s) (ap walks.surely (suits_outline x c) ∙ surely_outline (suits x c)) (par_name_outlined at p c (walks.surely (suits x c)))

declare_value_outlined : {t : Tie} {n : Bool} {w : World} {top : Env} {go go' : Eval} → EvalHasOutline t n w top go go' → {c d : Context} → Ties t c d → (a b : Assignment) (p : Decl) (ixs : List Want) (x : Want) {env env' : Env} → HasOutlines env env' → (e : Option Tree) → AllowsIf t e → HasOutline t n outline_declared (walks.declare_value w go c a p ixs x env e) (walks.declare_value (blank_world n w top) go' d b p ixs x env' e)
declare_value_outlined {w = w} g h a b p ixs x i None z = then_outlined _ (spend_outlined w.budget p.span (declared_count ixs undefined)) (λ u. give_outlined refl)
declare_value_outlined {n = n} {w = w} g h a b p ixs x i (Some e) z =
    then_outlined _ (g.by h e z i)
    (λ y. then_outlined (λ u. λ q. then_do (fitted (place_of e) ixs (outline y) q) (λ f. walks.valued (Blank n) b (place_of e) p ixs x p.ty.ty.var f)) (spend_same w.budget p.span (count_outline ixs y))
    (λ u. then_outlined _ (fitted_outlined (place_of e) ixs y) (λ f. valued_outlined w.mode a b (place_of e) p ixs x p.ty.ty.var f)))

declare_in_outlined : {t : Tie} {n : Bool} {w : World} {top : Env} {go go' : Eval} → EvalHasOutline t n w top go go' → {c d : Context} → Ties t c d → (a b : Assignment) (p : Decl) → AllowsDecl t p → {env env' : Env} → HasOutlines env env' → HasOutline t n outline_declared (walks.declare_in w go c a p env) (walks.declare_in (blank_world n w top) go' d b p env')
declare_in_outlined {w = w} g h a b p z i =
    then_outlined _ (weigh_outlined w.mode g.notes refl) (λ y.
    then_outlined _ (index_sets_outlined g h p.ty.index z.ty.index i) (λ ixs.
    then_outlined _ (set_want_outlined g h walks.defined_set defined_set_outlined p.ty.set z.ty.set i) (λ x.
    declare_value_outlined g h a b p ixs x i p.value z.value)))

pub names_outlined : (xs : List Declared) → HasOutlines (names_env xs) (names_env (outline_all_declared xs))
names_outlined [] = record { at = λ k. refl }
names_outlined (x ∷ xs) = bind_outlined x.slot x.cell (names_outlined xs)

pub push_declared : (xs : List Declared) (x : Declared) → outline_all_declared xs ++ outline_declared x ∷ [] ≡ outline_all_declared (xs ++ x ∷ [])
push_declared [] x = refl
push_declared (y ∷ xs) x = ap (λ ys. outline_declared y ∷ ys) (push_declared xs x)

-- the evaluation under the names so far
pub eval_under : {t : Tie} {n : Bool} (l : Limits) (m : Mode) → HasNotes n m → (p : PlainProgram) → ((k : ℕ) → AllowsFound t (slice_get p.functions k)) → (xs : List Declared) → EvalHasOutline t n (world_at l m p (names_env xs)) (names_env (outline_all_declared xs)) (eval (world_at l m p (names_env xs)) levels) (eval (world_at l (Blank n) p (names_env (outline_all_declared xs))) levels)
eval_under l m z p a xs = eval_outlined (world_at l m p (names_env xs)) (names_env (outline_all_declared xs)) z (names_outlined xs) a levels

pub declare_outlined : {t : Tie} {n : Bool} {c d : Context} → Ties t c d → (l : Limits) (m : Mode) → HasNotes n m → (a b : Assignment) (p : PlainProgram) → ((k : ℕ) → AllowsFound t (slice_get p.functions k)) → (xs : List Declared) (x : Decl) → AllowsDecl t x → HasOutline t n outline_all_declared (walks.declare c l m a p xs x) (walks.declare d l (Blank n) b p (outline_all_declared xs) x)
declare_outlined h l m z a b p f xs x y = then_outlined _ (declare_in_outlined (eval_under l m z p f xs) h a b x y (names_outlined xs)) (λ y. give_outlined (push_declared xs y))

-- ---- the whole model

pub bounded_outlined : {t : Tie} {n : Bool} (s : Option Span) → HasOutline t n (same {A = Unit {0}}) (walks.bounded s) (walks.bounded s)
bounded_outlined None = give_outlined refl
bounded_outlined (Some at) = stop_outlined kind.UnboundedSet at (pos 0)

aim_outlined : {t : Tie} {n : Bool} {c d : Context} → Ties t c d → (l : Limits) (m : Mode) → HasNotes n m → (p : PlainProgram) → ((k : ℕ) → AllowsFound t (slice_get p.functions k)) → (xs : List Declared) (g : Goal) → Allows t (free_in_goal g) → HasOutline t n outline_if (walks.aim (world_at l m p (names_env xs)) c g) (walks.aim (world_at l (Blank n) p (names_env (outline_all_declared xs))) d g)
aim_outlined h l m z p f xs program.satisfy y = give_outlined refl
aim_outlined h l m z p f xs (program.minimize e) y = then_outlined _ ((eval_under l m z p f xs).by h e y (names_outlined xs)) (λ c. give_outlined refl)
aim_outlined h l m z p f xs (program.maximize e) y = then_outlined _ ((eval_under l m z p f xs).by h e y (names_outlined xs)) (λ c. give_outlined refl)

-- where all that a walk evaluates is allowed
pub record AllowsProgram (t : Tie) (p : PlainProgram) : Type 0 where
  pub functions : (k : ℕ) → AllowsFound t (slice_get p.functions k)
  pub decls : Each (AllowsDecl t) (walks.ordered p.decls p.order)
  pub constraints : Each (AllowsTree t) p.constraints
  pub goal : Allows t (free_in_goal p.goal)

each_at : (t : Tie) (ds : List Decl) (k : ℕ) → Each (AllowsDecl t) ds → (rest : List Decl) → Each (AllowsDecl t) rest → Each (AllowsDecl t) (walks.with_decl rest (slice_get ds k))
each_at t [] k h rest r = r
each_at t (d ∷ ds) zero h rest r = (h.0, r)
each_at t (d ∷ ds) (suc k) h rest r = each_at t ds k h.1 rest r

ordered_allow : (t : Tie) (ds : List Decl) (ks : List ℕ) → Each (AllowsDecl t) ds → Each (AllowsDecl t) (walks.ordered ds ks)
ordered_allow t ds [] h = tt
ordered_allow t ds (k ∷ ks) h = each_at t ds k h (walks.ordered ds ks) (ordered_allow t ds ks h)

pub program_allows : (t : Tie) (p : PlainProgram) → Allows t (free_locals p) → AllowsProgram t p
unfolding free_locals
program_allows t p h =
    let first = allows_right t (flat_map free_in_function p.functions) (flat_map free_in_decl p.decls ++ (flat_map free_in p.constraints ++ free_in_goal p.goal)) h in
    let rest = allows_right t (flat_map free_in_decl p.decls) (flat_map free_in p.constraints ++ free_in_goal p.goal) first in
    record {
      functions = functions_allow t p.functions (allows_left t (flat_map free_in_function p.functions) (flat_map free_in_decl p.decls ++ (flat_map free_in p.constraints ++ free_in_goal p.goal)) h);
      decls = ordered_allow t p.decls p.order (each_decl t p.decls (allows_left t (flat_map free_in_decl p.decls) (flat_map free_in p.constraints ++ free_in_goal p.goal) first));
      constraints = each_flat t free_in p.constraints (allows_left t (flat_map free_in p.constraints) (free_in_goal p.goal) rest);
      goal = allows_right t (flat_map free_in p.constraints) (free_in_goal p.goal) rest;
    }

pub walk_outlined : {t : Tie} {n : Bool} {c d : Context} → Ties t c d → (l : Limits) (m : Mode) → HasNotes n m → (a b : Assignment) (p : PlainProgram) → AllowsProgram t p → HasOutline t n outline_walked (walk c l m a p) (walk d l (Blank n) b p)
walk_outlined {t = t} {n = n} {c = c} {d = d} h l m z a b p y =
    then_outlined _ (bounded_outlined (first_unbounded p)) (λ u.
    then_outlined _ (loop_each_outlined (AllowsDecl t) (walks.declare c l m a p) (walks.declare d l (Blank n) b p) (declare_outlined h l m z a b p y.functions) [] (walks.ordered p.decls p.order) y.decls) (λ xs.
    then_outlined _ (loop_each_outlined (AllowsTree t) (walks.constrain (world_at l m p (names_env xs)) c) (walks.constrain (world_at l (Blank n) p (names_env (outline_all_declared xs))) d) (λ acc e k. then_outlined _ ((eval_under l m z p y.functions xs).by h e k (names_outlined xs)) (λ x. give_outlined (push_outline acc x))) [] p.constraints y.constraints) (λ cs.
    then_outlined _ (aim_outlined h l m z p y.functions xs p.goal y.goal) (λ o. give_outlined refl))))
