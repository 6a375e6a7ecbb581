-- Guards that hold where several things do.
use Rattle.std.proofs.Common.{◌≡◌, ◌∙◌, ℕ, Bool, true, false, ◌&&◌, refl, sym, ap, arith}
use Rattle.mz_arena.specs.Values.{is_true}
use Rattle.mz_meaning.specs.Cells.{Mode, Blank, Given, Sure, both_sure}
use Rattle.mz_symbol.specs.Runs.{Run}
use Rattle.mz_symbol.specs.Readings.{Reading, Reads, state_of}
use Rattle.mz_symbol.specs.Makes.{GoesOnBy}
use Rattle.glob_nodes.specs.Says.{Says, Tells}
use Rattle.mz_eval_guards.specs.declared.types.Guard.{Guard}
use Rattle.mz_eval_guards.specs.declared.types.Guard.TheVariants as guard
use Rattle.mz_eval_guards.specs.Guards.{IsGuard, guard_seen, held_truth, open_sure}

pub goes_none : (s : Run) → GoesOnBy 0 s s
goes_none s = record { back = λ r h. h; paid = omega arith }

pub tells_of : (old new : Run) (f : Reading → Bool) (id : ℕ) → Says old new f id → Tells old new f id
tells_of old new f id s = record { same = s.same; tells = s.tells }

-- a guard of a node that tells this
pub open_is : (old new : Run) (f : Reading → Bool) (id : ℕ) → Tells old new f id → IsGuard old new (λ r. open_sure r.mode (f r)) (guard.Open id)
open_is old new f id t = record {
  same = t.same;
  is = λ r h. ap (open_sure r.mode) (t.tells r h);
  bare = refl;
}

pub guard_like : (old new : Run) (f g : Reading → Sure) (x : Guard) → ((r : Reading) → f r ≡ g r) → IsGuard old new f x → IsGuard old new g x
guard_like old new f g x e h = record { same = h.same; is = λ r q. h.is r q ∙ e r; bare = h.bare ∙ e _ }

never_held : (m : Mode) → open_sure m false ≡ record { par = false; is = false }
never_held (Blank n) = refl
never_held (Given f) = refl

pub open_never : (old new : Run) (id : ℕ) → Says old new (λ _. false) id → IsGuard old new (λ _. record { par = false; is = false }) (guard.Open id)
open_never old new id s = guard_like old new _ _ (guard.Open id) (λ r. never_held r.mode) (open_is old new (λ _. false) id (tells_of old new (λ _. false) id s))

-- where par cells tell that the rest holds
pub open_alone : (s : Run) (holds : Bool) (d : ℕ) → holds ≡ true → IsGuard s s (λ r. both_sure (record { par = true; is = holds }) (open_sure r.mode (is_true (r.term d)))) (guard.Open d)
open_alone s true d e = record { same = λ r h. refl; is = λ r h. refl; bare = refl }
open_alone s false d e = absurd (cc)

pub open_unheld : (old new : Run) (holds : Bool) (d : ℕ) (x : Guard) → holds ≡ false → IsGuard old new (λ _. record { par = false; is = false }) x → IsGuard old new (λ r. both_sure (record { par = true; is = holds }) (open_sure r.mode (is_true (r.term d)))) x
open_unheld old new false d x e h = record { same = h.same; is = h.is; bare = h.bare }
open_unheld old new true d x e h = absurd (cc)

held_both : (m : Mode) (a b : Bool) → open_sure m (a && b) ≡ both_sure (open_sure m a) (open_sure m b)
held_both (Blank n) a b = refl
held_both (Given f) a b = refl

pub open_both : (old new : Run) (d e id : ℕ) → Says old new (λ r. is_true (r.term d) && is_true (r.term e)) id → IsGuard old new (λ r. both_sure (open_sure r.mode (is_true (r.term d))) (open_sure r.mode (is_true (r.term e)))) (guard.Open id)
open_both old new d e id s = guard_like old new _ _ (guard.Open id) (λ r. held_both r.mode (is_true (r.term d)) (is_true (r.term e))) (open_is old new _ id (tells_of old new _ id s))

and_swapped : (a b : Bool) → (a && b) ≡ (b && a)
and_swapped true true = refl
and_swapped true false = refl
and_swapped false true = refl
and_swapped false false = refl

pub swapped : (m : Mode) (p b : Bool) → both_sure (record { par = true; is = p }) (open_sure m b) ≡ both_sure (open_sure m b) (record { par = true; is = p })
swapped m p b = ap (λ (q : Bool). record { par = false; is = q }) (and_swapped p (held_truth m b))
