-- Results that tell what a run gives.
use Rattle.std.proofs.Common.{◌≡◌, Result, Err, Ok, sym, ap, subst, ◌∙◌}
use Rattle.std.specs.Prelude.{None, IsErrAnd}
use Rattle.mz_base.specs.declared.stop.Stop.{Stop}
use Rattle.mz_base.specs.declared.stop.Stop.TheVariants.{Refused, Memory}
use Rattle.mz_meaning.specs.Runs.{Run, State, Answer, Out, Stopped, give, then_do}
use Rattle.mz_base.specs.declared.fault.Fault.{Fault}
use Rattle.mz_operations.specs.Bounds.{Bounds}
use Rattle.mz_meaning.specs.Cells.{Cell, Var}
use Rattle.mz_eval_cells.specs.declared.types.Known.{Known}
use Rattle.mz_eval_cells.specs.Views.{cell_of}
use Rattle.mz_eval_cells.specs.Meets.{MeetsAt, Tells}

-- by an equal run
pub tells_is : {A B : Type 0} {see : A → B} {r : Result A Stop} {run : Run B} (run' : Run B) → ((s : State) → run s ≡ run' s) → Tells see r run' → Tells see r run
tells_is {see = see} {r = r} run' e t = record { by = λ s. subst (λ x. MeetsAt see r s x) (sym (e s)) (t.by s) }

-- a cell that is there
pub tells_given : (k : Known) (x : Cell) → cell_of k ≡ x → Tells cell_of (Ok k) (give x)
tells_given k x e = record { by = λ s. ap (λ y. Out y s) (sym e) }

-- a part that stops stops the whole
pub tells_err : {A B C D : Type 0} {see : A → B} (see' : C → D) (e : Stop) {run : Run B} (go : B → State → Answer D) → Tells see (Err e) run → Tells see' (Err e) (λ s. then_do (run s) go)
tells_err see' (Refused f) go t = record { by = λ s. ap (λ x. then_do x go) (t.by s) }
tells_err see' Memory go t = record { by = λ s. tt }

-- what goes on after a part that gives nothing
pub tells_then : {A B : Type 0} {X : Type 0} {see : X → Unit {0}} {see' : A → B} (x : X) {t : Run (Unit {0})} {r : Result A Stop} {run : Run B} → Tells see (Ok x) t → Tells see' r run → Tells see' r (λ s. then_do (t s) (λ _. run))
tells_then x {run = run} h k = tells_is run (λ s. ap (λ a. then_do a (λ _. run)) (h.by s)) k

out_value : {A : Type 0} {x y : A} {s u : State} → Out x s ≡ Out y u → x ≡ y
out_value h = cc

out_state : {A : Type 0} {x y : A} {s u : State} → Out x s ≡ Out y u → s ≡ u
out_state h = cc

shaped_answer : (f : Cell → Cell) (a : Answer Bounds) (x : Cell) (s : State) → then_do a (λ b u. Out (Var b None) u) ≡ Out x s → then_do a (λ b u. Out (f (Var b None)) u) ≡ Out (f x) s
shaped_answer f (Out b u) x s h = ap (λ y. Out (f y) u) (out_value h) ∙ ap (λ v. Out (f x) v) (out_state h)
shaped_answer f (Stopped e) x s h = absurd (cc)

-- a cell with bounds, which takes a shape
pub tells_shaped : (f : Cell → Cell) (run : Run Bounds) (k shaped : Known) → Tells cell_of (Ok k) (λ s. then_do (run s) (λ b u. Out (Var b None) u)) → cell_of shaped ≡ f (cell_of k) → Tells cell_of (Ok shaped) (λ s. then_do (run s) (λ b u. Out (f (Var b None)) u))
tells_shaped f run k shaped h e = record { by = λ s. shaped_answer f (run s) (cell_of k) s (h.by s) ∙ ap (λ x. Out x s) (sym e) }

-- a part that stops, by what `?` gives
pub tells_ends : {A B C D : Type 0} {see : A → B} (see' : C → D) (r : Result C Stop) (e : Stop) (run : Run B) (go : B → State → Answer D) → IsErrAnd r (λ d. d ≡ e) → Tells see (Err e) run → Tells see' r (λ s. then_do (run s) go)
tells_ends see' (Ok x) e run go i t = absurd i
tells_ends see' (Err d) e run go i t = subst (λ z. Tells see' (Err z) (λ s. then_do (run s) go)) (sym i) (tells_err see' e go t)

shaped_stop : (f : Cell → Cell) (a : Answer Bounds) (e : Fault) → then_do a (λ b u. Out (Var b None) u) ≡ Stopped e → then_do a (λ b u. Out (f (Var b None)) u) ≡ Stopped e
shaped_stop f (Out b u) e h = absurd (cc)
shaped_stop f (Stopped d) e h = h

shaped_err : (f : Cell → Cell) (run : Run Bounds) (e : Stop) → Tells {A = Known} cell_of (Err e) (λ s. then_do (run s) (λ b u. Out (Var b None) u)) → Tells {A = Known} cell_of (Err e) (λ s. then_do (run s) (λ b u. Out (f (Var b None)) u))
shaped_err f run (Refused e) t = record { by = λ s. shaped_stop f (run s) e (t.by s) }
shaped_err f run Memory t = record { by = λ s. tt }

pub shaped_ends : (f : Cell → Cell) (run : Run Bounds) (r : Result Known Stop) (e : Stop) → IsErrAnd r (λ d. d ≡ e) → Tells {A = Known} cell_of (Err e) (λ s. then_do (run s) (λ b u. Out (Var b None) u)) → Tells cell_of r (λ s. then_do (run s) (λ b u. Out (f (Var b None)) u))
shaped_ends f run (Ok k) e i t = absurd i
shaped_ends f run (Err d) e i t = subst (λ z. Tells {A = Known} cell_of (Err z) (λ s. then_do (run s) (λ b u. Out (f (Var b None)) u))) (sym i) (shaped_err f run e t)
