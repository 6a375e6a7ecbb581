-- What is told of arrays that take their index sets.
use Rattle.std.proofs.Common.{◌≡◌, ℕ, ◌<◌, [], ◌∷◌, length, refl, sym, ap, subst, ◌∙◌, arith}
use Rattle.std.specs.Prelude.{pos, Bool, true, false, List, Some, Result, Ok, Err, IsErrAnd, if◌then◌else◌}
use Rattle.mz_base.specs.declared.fault.Span.{Span}
use Rattle.mz_base.specs.declared.fault.Fault.{Fault}
use Rattle.mz_base.specs.declared.kind.Kind.TheVariants.{IndexMismatch}
use Rattle.mz_base.specs.declared.stop.Stop.{Stop}
use Rattle.mz_base.specs.declared.stop.Stop.TheVariants.{Refused, Memory}
use Rattle.mz_base.specs.Faults.{fault_at}
use Rattle.mz_value.specs.Ranges.{Range}
use Rattle.mz_meaning.specs.Runs.{Run, Out, Stopped, give, stop, then_do}
use Rattle.mz_meaning.specs.Cells.{Cell, both_sure, length_of}
use Rattle.mz_meaning.specs.Cells as cells
use Rattle.mz_meaning.specs.Arrays.{Want, declared_ranges, fits_shape, fitted, fitted_to, moved, no_missing, own_ranges, suits}
use Rattle.mz_meaning.specs.Lets.{all_have_sets, kept}
use Rattle.mz_eval_cells.specs.declared.types.Known.{Known}
use Rattle.mz_eval_cells.specs.declared.types.Sure.{Sure}
use Rattle.mz_eval_cells.specs.Views.{cell_of}
use Rattle.mz_eval_cells.specs.Meets.{Tells}
use Rattle.mz_eval_declared.specs.declared.want.Want as code
use Rattle.mz_eval_declared.specs.Wants.{local_of, wants_of}

-- where the elements are as many, and else
abbrev fits_or : Span → List Want → List Range → Cell → Bool → Run Cell
fits_or at xs own c b = if b then give (moved (declared_ranges xs own) c) else stop IndexMismatch at (pos 0)

pub told_fitted : (see : Known → Cell) (at : Span) (xs : List Want) (own ix : List Range) (n : ℕ) (c : Cell) (r : Result Known Stop) → fits_shape xs own n ≡ true → ix ≡ declared_ranges xs own → Tells see r (give (moved ix c)) → Tells see r (fitted_to at xs own (Some n) c)
told_fitted see at xs own ix n c r h e t =
    subst (λ b. Tells see r (fits_or at xs own c b)) (sym h) (subst (λ rs. Tells see r (give (moved rs c))) e t)

pub told_misfit : (see : Known → Cell) (at : Span) (xs : List Want) (own : List Range) (n : ℕ) (c : Cell) (f : Fault) → fits_shape xs own n ≡ false → f ≡ fault_at IndexMismatch at → Tells {A = Known} see (Err (Refused f)) (fitted_to at xs own (Some n) c)
told_misfit see at xs own n c f h e = record { by = λ s. ap (λ b. fits_or at xs own c b s) h ∙ ap Stopped (sym e) }

-- the one of two runs that a test chooses
pub told_first : {A B : Type 0} (see : A → B) (r : Result A Stop) (run other : Run B) (b : Bool) → b ≡ true → Tells see r run → Tells see r (if b then run else other)
told_first see r run other b h t = subst (λ z. Tells see r (if z then run else other)) (sym h) t

pub told_second : {A B : Type 0} (see : A → B) (r : Result A Stop) (other run : Run B) (b : Bool) → b ≡ false → Tells see r run → Tells see r (if b then other else run)
told_second see r other run b h t = subst (λ z. Tells see r (if z then other else run)) (sym h) t

pub told_given : {A B : Type 0} (see : A → B) (x : A) → Tells see (Ok x) (give (see x))
told_given see x = record { by = λ s. refl }

pub told_refused : {A B : Type 0} (see : A → B) (at : Span) (f : Fault) → f ≡ fault_at IndexMismatch at → Tells {A = A} see (Err (Refused f)) (stop {A = B} IndexMismatch at (pos 0))
told_refused see at f e = record { by = λ s. ap Stopped (sym e) }

-- what goes on after the value took its index sets
abbrev with_tests : List Want → Want → Cell → Run (Cell × cells.Sure)
with_tests xs x f = give (f, both_sure (all_have_sets xs) (suits x f))

pub kept_stops : (at : Span) (xs : List Want) (x : Want) (c : Cell) (e : Stop) → Tells {A = Known} cell_of (Err e) (fitted at xs c) → Tells {A = Known × Sure} local_of (Err e) (kept at xs x c)
kept_stops at xs x c (Refused f) t = record { by = λ s. ap (λ a. then_do a (with_tests xs x)) (t.by s) }
kept_stops at xs x c Memory t = record { by = λ s. tt }

stops_so : (at : Span) (xs : List Want) (x : Want) (c : Cell) (d e : Stop) → d ≡ e → Tells {A = Known × Sure} local_of (Err e) (kept at xs x c) → Tells {A = Known × Sure} local_of (Err d) (kept at xs x c)
stops_so at xs x c d e i t = subst (λ z. Tells {A = Known × Sure} local_of (Err z) (kept at xs x c)) (sym i) t

pub kept_ends : (at : Span) (xs : List Want) (x : Want) (c : Cell) (r : Result (Known × Sure) Stop) (e : Stop) → IsErrAnd r (λ d. d ≡ e) → Tells {A = Known} cell_of (Err e) (fitted at xs c) → Tells local_of r (kept at xs x c)
kept_ends at xs x c (Ok p) e i t = absurd i
kept_ends at xs x c (Err d) e i t = stops_so at xs x c d e i (kept_stops at xs x c e t)

pub kept_gives : (at : Span) (xs : List Want) (x : Want) (c : Cell) (f : Known) (p : Known × Sure) → Tells cell_of (Ok f) (fitted at xs c) → local_of p ≡ (cell_of f, both_sure (all_have_sets xs) (suits x (cell_of f))) → Tells local_of (Ok p) (kept at xs x c)
kept_gives at xs x c f p t e = record { by = λ s. ap (λ a. then_do a (with_tests xs x)) (t.by s) ∙ ap (λ q. Out q s) (sym e) }

-- ---- with declared index sets, and without

pub none_fitted : (see : Known → Cell) (at : Span) (ws : List code.Want) (k : Known) → length ws < 1 → Tells see (Ok k) (fitted at (wants_of ws) (see k))
none_fitted see at [] k l = record { by = λ s. refl }
none_fitted see at (w ∷ ws) k l = absurd (omega arith)

pub some_fitted : (see : Known → Cell) (at : Span) (ws : List code.Want) (c : Cell) (r : Result Known Stop) → 0 < length ws → Tells see r (if no_missing (wants_of ws) then fitted_to at (wants_of ws) (own_ranges c) (length_of c) c else give c) → Tells see r (fitted at (wants_of ws) c)
some_fitted see at [] c r l t = absurd (omega arith)
some_fitted see at (w ∷ ws) c r l t = t
