-- What doesn't depend on the assignment, and what a run without values tells of runs with them.
use Rattle.std.proofs.Common.{◌≡◌, ℕ, ℤ, Bool, true, false, List, [], ◌∷◌, flat_map, Option, refl, sym, ap, ◌∙◌, subst}
use Rattle.mz_base.specs.declared.fault.Fault.{Fault}
use Rattle.mz_value.specs.Contents.{Content}
use Rattle.mz_core.specs.Program.{PlainProgram}
use Rattle.mz_core.specs.Tree.{Tree}
use Rattle.mz_meaning.specs.Runs.{Run, State, Answer, Out, Stopped, start}
use Rattle.mz_meaning.specs.Cells.{Cell, Par, Var, Unshaped, Blank, Bare, Given, Env}
use Rattle.mz_meaning.specs.Contexts.{Context, Untested, Positive, Other}
use Rattle.mz_meaning.specs.Forms.{World}
use Rattle.mz_meaning.specs.Evaluation.{eval}
use Rattle.mz_meaning.specs.Walk.{Limits, Assignment, Declared, Walked, walk}
use Rattle.mz_meaning.specs.Solutions.{Each, IsInside, AreLegalFrom, SolvesWith, Solves}
use Rattle.mz_meaning_laws.specs.FreeLocals.{free_in, free_in_function, free_locals}
use Rattle.mz_meaning_laws.specs.Outlines.{outline, outline_state, outline_all_declared, outline_walked, blank_world, HasOutlines}
use Rattle.mz_meaning_laws.specs.Ties.{Equal, Untesting, Strict, Without, Ties, IsTied, HasOutline, TakesNone, outline_answer, is_local_kind}
use Rattle.mz_meaning_laws.specs.Independence.{EnvsAreAlike, AreSameAnswers, AreSameRuns, given_world, FitsUntested, FitsStrict, SolvesOver, RunsTo, SolvesPlainly}
use Rattle.mz_meaning_laws.proofs.Allowed.{functions_allow}
use Rattle.mz_meaning_laws.proofs.Evaluation.{eval_outlined}
use Rattle.mz_meaning_laws.proofs.Walks.{program_allows, walk_outlined}

ties_equal : (c : Context) → Ties Equal c c
ties_equal c = record { is = refl }

ties_untested : (c : Context) → Ties Untesting c Untested
ties_untested c = record { is = refl }

ties_other : (c : Context) → Ties Strict c Other
ties_other c = record { is = refl }

-- ---- two runs with values, which have one outline

same_answers : {A B : Type 0} (f : A → B) (a b : Answer A) → outline_answer true f a ≡ outline_answer true f b → AreSameAnswers f a b
same_answers f (Out x s) (Out y t) e = (cc, cc)
same_answers f (Out x s) (Stopped g) e = cc
same_answers f (Stopped g) (Out y t) e = cc
same_answers f (Stopped g) (Stopped d) e = cc

same_runs : {A B : Type 0} {f : A → B} {m m' : Run A} {blank : Run B} → HasOutline Equal true f m blank → HasOutline Equal true f m' blank → AreSameRuns f m m'
same_runs {f = f} {m = m} {m' = m'} h k = record { by = λ s. same_answers f (m s) (m' s) (sym (h.by s refl).0 ∙ (k.by s refl).0) }

-- THE LAW, of expressions: in the same context, over alike environments, under any choices
pub expressions_are_alike : (w : World) (top : Env) (f g : ℕ → Content) → EnvsAreAlike w.top top → (levels : ℕ) (c : Context) (e : Tree) (env env' : Env) → EnvsAreAlike env env' → AreSameRuns outline (eval (given_world w w.top f) levels c e env) (eval (given_world w top g) levels c e env')
expressions_are_alike w top f g h levels c e env env' i =
    let blank : Env = λ k. outline (w.top k) in
    let one : HasOutlines w.top blank = record { at = λ k. refl } in
    let other : HasOutlines top blank = record { at = h.at } in
    same_runs
    ((eval_outlined {t = Equal} {n = true} (given_world w w.top f) blank tt one (functions_allow Equal w.functions tt) levels).by (ties_equal c) e tt {env = env} {env' = λ k. outline (env k)} (record { at = λ k. refl }))
    ((eval_outlined {t = Equal} {n = true} (given_world w top g) blank tt other (functions_allow Equal w.functions tt) levels).by (ties_equal c) e tt {env = env'} {env' = λ k. outline (env k)} (record { at = i.at }))

-- of walks: under any assignments and choices
pub walks_are_alike : (l : Limits) (p : PlainProgram) (a b : Assignment) (f g : ℕ → Content) → AreSameRuns outline_walked (walk Positive l (Given f) a p) (walk Positive l (Given g) b p)
walks_are_alike l p a b f g = same_runs (walk_outlined {t = Equal} {n = true} (ties_equal Positive) l (Given f) tt a b p (program_allows Equal p tt)) (walk_outlined {t = Equal} {n = true} (ties_equal Positive) l (Given g) tt b b p (program_allows Equal p tt))

-- ---- the run without values in the same context: the outline of each run with them

pub expressions_have_outlines : (w : World) (top : Env) → HasOutlines w.top top → (levels : ℕ) (c : Context) (e : Tree) (env env' : Env) → HasOutlines env env' → (s : State) → eval (blank_world false w top) levels c e env' (outline_state false s) ≡ outline_answer false outline (eval w levels c e env s)
expressions_have_outlines w top z levels c e env env' i s = (((eval_outlined {t = Equal} {n = false} w top tt z (functions_allow Equal w.functions tt) levels).by (ties_equal c) e tt i).by s refl).0

pub walks_have_outlines : (l : Limits) (p : PlainProgram) (c : Context) (a b : Assignment) (f : ℕ → Content) → walk c l Bare b p start ≡ outline_answer false outline_walked (walk c l (Given f) a p start)
walks_have_outlines l p c a b f = ((walk_outlined {t = Equal} {n = false} (ties_equal c) l (Given f) tt a b p (program_allows Equal p tt)).by start refl).0

-- ---- the run without values that tests no context

local_by : (k : Bool) → (k ≡ false → ⊥) → k ≡ true
local_by true h = refl
local_by false h = absurd (h refl)

fits_untested : {A B : Type 0} (f : A → B) (s : State) (a : Answer A) (b : Answer B) → IsTied Untesting false f s a b → FitsUntested f b a
fits_untested f s (Out x q) (Out y t) h = let e = (h refl).0 in let p : t ≡ outline_state false q = cc in (cc, ap (λ s. s.work) p)
fits_untested f s (Out x q) (Stopped d) h = let e = (h refl).0 in cc
fits_untested f s (Stopped g) (Out y t) h = local_by (is_local_kind g.kind) (λ i. let e = (h i).0 in cc)
fits_untested f s (Stopped g) (Stopped d) h = λ i. let e = (h i).0 in cc

pub expressions_fit_untested : (w : World) (top : Env) → HasOutlines w.top top → (levels : ℕ) (c : Context) (e : Tree) (env env' : Env) → HasOutlines env env' → (s : State) → FitsUntested outline (eval (blank_world false w top) levels Untested e env' (outline_state false s)) (eval w levels c e env s)
expressions_fit_untested w top z levels c e env env' i s = fits_untested outline s _ _ (((eval_outlined {t = Untesting} {n = false} w top tt z (functions_allow Untesting w.functions tt) levels).by (ties_untested c) e tt i).by s)

pub walks_fit_untested : (l : Limits) (p : PlainProgram) (a b : Assignment) (f : ℕ → Content) → FitsUntested outline_walked (walk Untested l Bare b p start) (walk Positive l (Given f) a p start)
walks_fit_untested l p a b f = fits_untested outline_walked start _ _ ((walk_outlined {t = Untesting} {n = false} (ties_untested Positive) l (Given f) tt a b p (program_allows Untesting p tt)).by start)

-- ---- the run without values that allows no free local

fits_strict : {A B : Type 0} (f : A → B) (s : State) (a : Answer A) (b : Answer B) → IsTied Strict false f s a b → FitsStrict f s b a
fits_strict f s (Out x q) (Out y t) h = let e = h refl in let o = e.0 in let p : t ≡ outline_state false q = cc in (cc, ap (λ s. s.work) p, e.1)
fits_strict f s (Stopped g) (Out y t) h = let e = (h refl).0 in cc
fits_strict f s (Out x q) (Stopped d) h = local_by (is_local_kind d.kind) (λ i. let e = (h i).0 in cc)
fits_strict f s (Stopped g) (Stopped d) h = λ i. let e = (h i).0 in cc

pub expressions_fit_strict : (w : World) (top : Env) → HasOutlines w.top top → (levels : ℕ) (c : Context) (e : Tree) (env env' : Env) → HasOutlines env env' → (s : State) → FitsStrict outline s (eval (blank_world false w top) levels Other e env' (outline_state false s)) (eval w levels c e env s)
expressions_fit_strict w top z levels c e env env' i s = fits_strict outline s _ _ (((eval_outlined {t = Strict} {n = false} w top tt z (functions_allow Strict w.functions tt) levels).by (ties_other c) e tt i).by s)

pub walks_fit_strict : (l : Limits) (p : PlainProgram) (a b : Assignment) (f : ℕ → Content) → FitsStrict outline_walked start (walk Other l Bare b p start) (walk Positive l (Given f) a p start)
walks_fit_strict l p a b f = fits_strict outline_walked start _ _ ((walk_outlined {t = Strict} {n = false} (ties_other Positive) l (Given f) tt a b p (program_allows Strict p tt)).by start)

-- a par cell is known from its outline
pub par_is_known : (c : Cell) (v : Option Content) → outline c ≡ Par v → c ≡ Par v
par_is_known (Par u) v h = h
par_is_known (Var b u) v h = absurd (cc)
par_is_known (Unshaped d) v h = absurd (cc)

-- ---- solutions, over one blank walk that notes its choices

inside_outline : (a : Assignment) (xs : List Declared) → Each (IsInside a) xs → Each (IsInside a) (outline_all_declared xs)
inside_outline a [] h = tt
inside_outline a (x ∷ xs) h = (h.0, inside_outline a xs h.1)

inside_of_outline : (a : Assignment) (xs : List Declared) → Each (IsInside a) (outline_all_declared xs) → Each (IsInside a) xs
inside_of_outline a [] h = tt
inside_of_outline a (x ∷ xs) h = (h.0, inside_of_outline a xs h.1)

record EndsSo (w shown : Walked) (s t : State) : Type 0 where
  is : outline_walked w ≡ shown
  ends : s ≡ t

ends_so : (l : Limits) (p : PlainProgram) (a b : Assignment) (f : ℕ → Content) (shown w : Walked) (t s : State) → walk Positive l (Blank true) b p start ≡ Out shown t → walk Positive l (Given f) a p start ≡ Out w s → EndsSo w shown s t
ends_so l p a b f shown w t s k e =
    let h : walk Positive l (Blank true) b p start ≡ Out (outline_walked w) s = ((walk_outlined {t = Equal} {n = true} (ties_equal Positive) l (Given f) tt a b p (program_allows Equal p tt)).by start refl).0 ∙ ap (outline_answer true outline_walked) e in
    let q : Out (outline_walked w) s ≡ Out shown t = sym h ∙ k in
    record { is = cc; ends = cc }

pub solutions_are_over : (l : Limits) (p : PlainProgram) (a b : Assignment) (z : Option ℤ) (shown : Walked) (t : State) → walk Positive l (Blank true) b p start ≡ Out shown t → SolvesWith l p a z → SolvesOver l p shown t a z
solutions_are_over l p a b z shown t k s =
    let q = ends_so l p a b s.choices shown s.out t s.end k s.runs in
    record {
      choices = s.choices;
      out = s.out;
      runs = s.runs ∙ ap (λ e. Out s.out e) q.ends;
      is = q.is;
      inside = subst (λ w. Each (IsInside a) w.names) q.is (inside_outline a s.out.names s.inside);
      legal = subst (λ e. AreLegalFrom 0 s.choices e.taken) q.ends s.legal;
      declared = s.declared;
      constraints = s.constraints;
      objective = s.objective;
    }

pub over_is_solution : (l : Limits) (p : PlainProgram) (a : Assignment) (z : Option ℤ) (shown : Walked) (t : State) → SolvesOver l p shown t a z → SolvesWith l p a z
over_is_solution l p a z shown t s = record {
  choices = s.choices;
  out = s.out;
  end = t;
  runs = s.runs;
  inside = inside_of_outline a s.out.names (subst (λ w. Each (IsInside a) w.names) (sym s.is) s.inside);
  legal = s.legal;
  declared = s.declared;
  constraints = s.constraints;
  objective = s.objective;
}

-- a walk without values, in the same contexts, tells of each solution what it gives and its work; and where it stops, nothing solves the model
pub bare_walk_tells : (l : Limits) (p : PlainProgram) (a b : Assignment) (z : Option ℤ) (shown : Walked) (t : State) → walk Positive l Bare b p start ≡ Out shown t → (s : SolvesWith l p a z) → (outline_walked s.out ≡ shown) × (s.end.work ≡ t.work)
bare_walk_tells l p a b z shown t k s =
    let e : Out shown t ≡ Out (outline_walked s.out) (outline_state false s.end) = sym k ∙ (walks_have_outlines l p Positive a b s.choices ∙ ap (outline_answer false outline_walked) s.runs) in
    let q : outline_state false s.end ≡ t = cc in
    (cc, ap (λ s. s.work) q)

pub bare_walk_stops : (l : Limits) (p : PlainProgram) (a b : Assignment) (g : Fault) → walk Positive l Bare b p start ≡ Stopped g → Solves l p a → ⊥
bare_walk_stops l p a b g k s =
    let e : Stopped g ≡ Out (outline_walked s.1.out) (outline_state false s.1.end) = sym k ∙ (walks_have_outlines l p Positive a b s.1.choices ∙ ap (outline_answer false outline_walked) s.1.runs) in cc

-- where the walk that allows no free local stops at another fault, nothing solves the model
strict_stop : (h : Fault) (r : Answer Walked) → is_local_kind h.kind ≡ false → FitsStrict outline_walked start (Stopped h) r → r ≡ Stopped h
strict_stop h (Out x q) i k = absurd (cc)
strict_stop h (Stopped g) i k = ap (λ g. Stopped g) (sym (k i))

pub no_solution : (l : Limits) (p : PlainProgram) (a b : Assignment) (h : Fault) → is_local_kind h.kind ≡ false → walk Other l Bare b p start ≡ Stopped h → Solves l p a → ⊥
no_solution l p a b h i k s =
    let r : walk Positive l (Given s.1.choices) a p start ≡ Stopped h = strict_stop h _ i (subst (λ r. FitsStrict outline_walked start r (walk Positive l (Given s.1.choices) a p start)) k (walks_fit_strict l p a b s.1.choices)) in
    let e : Stopped h ≡ Out s.1.out s.1.end = sym r ∙ s.1.runs in cc

-- ---- MODELS WITHOUT FREE LOCALS: a run without values is the outline of each run with them, whatever the contexts are

ties_any : (c d : Context) → Ties Without c d
ties_any c d = record { is = tt }

pub expressions_without : (w : World) (top : Env) → HasOutlines w.top top → flat_map free_in_function w.functions ≡ [] → (levels : ℕ) (c d : Context) (e : Tree) → free_in e ≡ [] → (env env' : Env) → HasOutlines env env' → (s : State) → eval (blank_world false w top) levels d e env' (outline_state false s) ≡ outline_answer false outline (eval w levels c e env s)
expressions_without w top z a levels c d e k env env' i s = (((eval_outlined {t = Without} {n = false} w top tt z (functions_allow Without w.functions a) levels).by (ties_any c d) e k i).by s refl).0

pub expressions_take_none : (w : World) (top : Env) → HasOutlines w.top top → flat_map free_in_function w.functions ≡ [] → (levels : ℕ) (c : Context) (e : Tree) → free_in e ≡ [] → (env env' : Env) → HasOutlines env env' → (s : State) → TakesNone s (eval w levels c e env s)
expressions_take_none w top z a levels c e k env env' i s = (((eval_outlined {t = Without} {n = false} w top tt z (functions_allow Without w.functions a) levels).by (ties_any c c) e k i).by s refl).1

pub walks_without : (l : Limits) (p : PlainProgram) → free_locals p ≡ [] → (c d : Context) (a b : Assignment) (f : ℕ → Content) → walk d l Bare b p start ≡ outline_answer false outline_walked (walk c l (Given f) a p start)
walks_without l p k c d a b f = ((walk_outlined {t = Without} {n = false} (ties_any c d) l (Given f) tt a b p (program_allows Without p k)).by start refl).0

pub walks_take_none : (l : Limits) (p : PlainProgram) → free_locals p ≡ [] → (c : Context) (a : Assignment) (f : ℕ → Content) → TakesNone start (walk c l (Given f) a p start)
walks_take_none l p k c a f = ((walk_outlined {t = Without} {n = false} (ties_any c c) l (Given f) tt a a p (program_allows Without p k)).by start refl).1

runs_to : (l : Limits) (p : PlainProgram) (f : ℕ → Content) (a : Assignment) (shown : Walked) (t : State) (r : Answer Walked) → walk Positive l (Given f) a p start ≡ r → TakesNone start r → outline_answer false outline_walked r ≡ Out shown t → RunsTo l p shown t.work f a
runs_to l p f a shown t (Out x q) e h k = let o : outline_state false q ≡ t = cc in record { out = x; end = q; runs = e; is = cc; works = ap (λ s. s.work) o; none = h }
runs_to l p f a shown t (Stopped g) e h k = absurd (cc)

-- each run with values goes through, gives this, and takes no choice
pub all_run : (l : Limits) (p : PlainProgram) → free_locals p ≡ [] → (b : Assignment) (shown : Walked) (t : State) → walk Untested l Bare b p start ≡ Out shown t → (f : ℕ → Content) (a : Assignment) → RunsTo l p shown t.work f a
all_run l p h b shown t k f a = runs_to l p f a shown t (walk Positive l (Given f) a p start) refl (walks_take_none l p h Positive a f) (sym (walks_without l p h Positive Untested a b f) ∙ k)

record EndsPlainly (shown : Walked) (w : Walked) (e : State) : Type 0 where
  is : outline_walked w ≡ shown
  none : e.taken ≡ []

ends_plainly : (l : Limits) (p : PlainProgram) (shown : Walked) (k : ℕ) (f : ℕ → Content) (a : Assignment) (w : Walked) (e : State) → walk Positive l (Given f) a p start ≡ Out w e → RunsTo l p shown k f a → EndsPlainly shown w e
ends_plainly l p shown k f a w e h r =
    let q : Out r.out r.end ≡ Out w e = sym r.runs ∙ h in
    let o : r.out ≡ w = cc in
    let d : r.end ≡ e = cc in
    record { is = subst (λ w. outline_walked w ≡ shown) o r.is; none = subst (λ e. e.taken ≡ []) d r.none }

pub solves_plainly : (l : Limits) (p : PlainProgram) → free_locals p ≡ [] → (a b : Assignment) (z : Option ℤ) (shown : Walked) (t : State) → walk Untested l Bare b p start ≡ Out shown t → (s : SolvesWith l p a z) → SolvesPlainly l p shown s.choices a z
solves_plainly l p h a b z shown t k s =
    let q = ends_plainly l p shown t.work s.choices a s.out s.end s.runs (all_run l p h b shown t k s.choices a) in
    record { out = s.out; end = s.end; runs = s.runs; is = q.is; inside = subst (λ w. Each (IsInside a) w.names) q.is (inside_outline a s.out.names s.inside); declared = s.declared; constraints = s.constraints; objective = s.objective }

pub plainly_solves : (l : Limits) (p : PlainProgram) → free_locals p ≡ [] → (a b : Assignment) (z : Option ℤ) (shown : Walked) (t : State) → walk Untested l Bare b p start ≡ Out shown t → (f : ℕ → Content) → SolvesPlainly l p shown f a z → SolvesWith l p a z
plainly_solves l p h a b z shown t k f s =
    let q = ends_plainly l p shown t.work f a s.out s.end s.runs (all_run l p h b shown t k f a) in
    record { choices = f; out = s.out; end = s.end; runs = s.runs; inside = inside_of_outline a s.out.names (subst (λ w. Each (IsInside a) w.names) (sym s.is) s.inside); legal = subst (λ ds. AreLegalFrom 0 f ds) (sym q.none) tt; declared = s.declared; constraints = s.constraints; objective = s.objective }

-- where the run without values stops, nothing solves the model
pub nothing_solves : (l : Limits) (p : PlainProgram) → free_locals p ≡ [] → (a b : Assignment) (g : Fault) → walk Untested l Bare b p start ≡ Stopped g → Solves l p a → ⊥
nothing_solves l p h a b g k s =
    let e : Stopped g ≡ Out (outline_walked s.1.out) (outline_state false s.1.end) = sym k ∙ (walks_without l p h Positive Untested a b s.1.choices ∙ ap (outline_answer false outline_walked) s.1.runs) in cc
