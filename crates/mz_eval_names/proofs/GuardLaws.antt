-- Guards of what par cells tell, and nodes that are made after charges were drawn.
use Rattle.std.proofs.Common.{◌≡◌, ◌∙◌, ℕ, Bool, true, false, ◌&&◌, refl, sym, ap, subst, arith}
use Rattle.mz_arena.specs.Values.{is_true}
use Rattle.mz_meaning.specs.Cells.{Mode, Sure, both_sure}
use Rattle.mz_meaning.specs.Runs.{Out}
use Rattle.mz_symbol.specs.Runs.{Run}
use Rattle.mz_symbol.specs.Readings.{Reading, Reads, blank, state_of}
use Rattle.mz_symbol.specs.Makes.{GoesOn, GoesOnBy, Spares}
use Rattle.mz_symbol_rows.proofs.RowLaws.{out_both}
use Rattle.mz_symbol_rows.proofs.GoingOn.{goes_both, goes_drawn}
use Rattle.mz_eval_guards.specs.declared.types.Guard.{Guard}
use Rattle.mz_eval_guards.specs.declared.types.Guard.TheVariants as guard
use Rattle.mz_eval_guards.specs.Guards.{IsGuard, guard_seen, held_truth, open_sure}
use Rattle.mz_eval_guards.proofs.Joined.{guard_like, swapped}

pub goes_on : (s : Run) → GoesOn s s
goes_on s = record { back = λ r h. h; paid = omega arith }

pub goes_then : (old mid new : Run) → GoesOn old mid → GoesOn mid new → GoesOn old new
goes_then old mid new f g = goes_both 0 0 old mid new f g

-- what was drawn pays for what is made next, also where its number is told by an equation
pub drawn_as : (n m : ℕ) (old mid new : Run) → n ≡ m → Spares n old mid → GoesOnBy m mid new → GoesOn old new
drawn_as n m old mid new e s g = goes_drawn n old mid new s (subst (λ k. GoesOnBy k mid new) (sym e) g)

pub drawn_guard : (old mid new : Run) (f : Reading → Sure) (g : Guard) → ((r : Reading) → state_of r old ≡ state_of r mid) → IsGuard mid new f g → IsGuard old new f g
drawn_guard old mid new f g e h = record { same = λ r q. e r ∙ h.same r q; is = h.is; bare = h.bare }

-- a guard that each reading sees so
pub unmoved : (s : Run) (f : Reading → Sure) (g : Guard) → ((r : Reading) → guard_seen r g ≡ f r) → IsGuard s s f g
unmoved s f g e = record { same = λ r h. refl; is = λ r h. e r; bare = e blank }

-- a guard as what an evaluation gives
pub guard_out : (old new : Run) (f : Reading → Sure) (g : Guard) (r : Reading) → IsGuard old new f g → Reads r new → Out (f r) (state_of r old) ≡ Out (guard_seen r g) (state_of r new)
guard_out old new f g r h q = out_both (sym (h.is r q)) (h.same r q)

-- ---- where par cells tell one

pub par_true : (s : Run) (x : Bool) (b : Guard) → x ≡ true → IsGuard s s (λ r. both_sure (record { par = true; is = x }) (guard_seen r b)) b
par_true s true b e = unmoved s _ b (λ r. refl)
par_true s false b e = absurd (cc)

pub par_false : (s : Run) (x y : Bool) → x ≡ false → IsGuard s s (λ r. both_sure (record { par = true; is = x }) (record { par = true; is = y })) (guard.Par false)
par_false s false y e = unmoved s _ (guard.Par false) (λ r. refl)
par_false s true y e = absurd (cc)

pub par_never : (old new : Run) (x : Bool) (d : ℕ) (g : Guard) → x ≡ false → IsGuard old new (λ _. record { par = false; is = false }) g → IsGuard old new (λ r. both_sure (record { par = true; is = x }) (open_sure r.mode (is_true (r.term d)))) g
par_never old new false d g e h = record { same = h.same; is = h.is; bare = h.bare }
par_never old new true d g e h = absurd (cc)

pub swapped_guard : (old new : Run) (d : ℕ) (y : Bool) (g : Guard) → IsGuard old new (λ r. both_sure (record { par = true; is = y }) (open_sure r.mode (is_true (r.term d)))) g → IsGuard old new (λ r. both_sure (open_sure r.mode (is_true (r.term d))) (record { par = true; is = y })) g
swapped_guard old new d y g h = guard_like old new _ _ g (λ r. swapped r.mode y (is_true (r.term d))) h

-- ---- where var cells tell both

and_same : (b : Bool) → b ≡ (b && b)
and_same true = refl
and_same false = refl

open_twice : (m : Mode) (b : Bool) → open_sure m b ≡ both_sure (open_sure m b) (open_sure m b)
open_twice m b = ap (λ (q : Bool). record { par = false; is = q }) (and_same (held_truth m b))

pub same_open : (s : Run) (d e : ℕ) → d ≡ e → IsGuard s s (λ r. both_sure (open_sure r.mode (is_true (r.term d))) (open_sure r.mode (is_true (r.term e)))) (guard.Open d)
same_open s d e q = subst (λ n. IsGuard s s (λ r. both_sure (open_sure r.mode (is_true (r.term d))) (open_sure r.mode (is_true (r.term n)))) (guard.Open d)) q (unmoved s _ (guard.Open d) (λ r. open_twice r.mode (is_true (r.term d))))
