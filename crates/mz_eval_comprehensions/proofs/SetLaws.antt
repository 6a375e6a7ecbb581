-- Guards, and sets that count where a node is true, under a reading.
use Rattle.std.proofs.Common.{◌≡◌, ◌∙◌, ℕ, Bool, true, false, not, ◌&&◌, ◌||◌, Some, Result, Ok, Err, IfOk, refl, sym, ap}
use Rattle.mz_base.specs.declared.stop.Memory.{Memory}
use Rattle.mz_arena.specs.Values as terms
use Rattle.mz_meaning.specs.Cells as cells
use Rattle.mz_meaning.specs.Cells.{Mode, Blank, Given, Sure, both_sure}
use Rattle.mz_meaning.specs.Comprehensions.{counted_set, if_given}
use Rattle.mz_symbol.specs.Runs.{Run}
use Rattle.mz_symbol.specs.Readings.{Reading, state_of}
use Rattle.mz_symbol.specs.Makes.{GoesOnBy}
use Rattle.glob_nodes.specs.Says.{Says, Tells}
use Rattle.mz_eval_guards.specs.declared.types.Guard.{Guard}
use Rattle.mz_eval_guards.specs.declared.types.Guard.TheVariants as guard
use Rattle.mz_eval_guards.specs.Guards.{IsGuard, guard_seen, held_truth, open_sure}
use Rattle.mz_eval_comprehensions.specs.Presences.{where_true}
use Rattle.mz_eval_comprehensions.specs.Drawn.{IsSure}

-- ---- guards

pub sure_with : (s : Sure) → s ≡ both_sure cells.sure s
sure_with s = refl

and_true : (a : Bool) → a ≡ (a && true)
and_true true = refl
and_true false = refl

with_sure : (m : Mode) (b : Bool) → open_sure m b ≡ both_sure (open_sure m b) cells.sure
with_sure m b = ap (λ (p : Bool). record { par = false; is = p }) (and_true (held_truth m b))

pub told_sure : (s : Run) (f : Reading → Sure) (b : Bool) → ((r : Reading) → f r ≡ record { par = true; is = b }) → IsSure s s f (guard.Par b)
told_sure s f b h = record { same = λ r q. refl; is = λ r q. sym (h r) }

-- a guard that says the same
pub like_sure : (x : Result Guard Memory) (old new : Run) (f g : Reading → Sure) → ((r : Reading) → f r ≡ g r) → IfOk x (IsSure old new f) → IfOk x (IsSure old new g)
like_sure (Ok k) old new f g e h = record { same = h.same; is = λ r q. h.is r q ∙ e r }
like_sure (Err m) old new f g e h = tt

pub par_node : (old new : Run) (g : Guard) (b : Bool) (id : ℕ) → g ≡ guard.Par b → Says old new (λ _. b) id → IsSure old new (λ r. open_sure r.mode (guard_seen r g).is) (guard.Open id)
par_node old new (guard.Par a) b id e s = let same : b ≡ a = cc in record { same = s.same; is = λ r h. ap (open_sure r.mode) (s.tells r h ∙ same) }
par_node old new (guard.Open d) b id e s = absurd (cc)

held_twice : (m : Mode) (b : Bool) → open_sure m b ≡ open_sure m (held_truth m b)
held_twice (Blank n) b = refl
held_twice (Given f) b = refl

pub open_node : (s : Run) (g : Guard) (d : ℕ) → g ≡ guard.Open d → IsSure s s (λ r. open_sure r.mode (guard_seen r g).is) (guard.Open d)
open_node s (guard.Par a) d e = absurd (cc)
open_node s (guard.Open c) d e = let same : d ≡ c = cc in record { same = λ r h. refl; is = λ r h. ap (λ i. open_sure r.mode (terms.is_true (r.term i))) same ∙ held_twice r.mode (terms.is_true (r.term c)) }

pub never_both : (old new : Run) (b : Guard) (d : ℕ) (g : Guard) → b ≡ guard.Open d → IsGuard old new (λ _. record { par = false; is = false }) g → IsSure old new (λ r. both_sure cells.unsure (guard_seen r b)) g
never_both old new (guard.Open c) d g e h = record { same = h.same; is = h.is }
never_both old new (guard.Par a) d g e h = absurd (cc)

pub open_sure_both : (s : Run) (d : ℕ) (b : Guard) → b ≡ guard.Par true → IsSure s s (λ r. both_sure (guard_seen r (guard.Open d)) (guard_seen r b)) (guard.Open d)
open_sure_both s d (guard.Par true) e = record { same = λ r h. refl; is = λ r h. with_sure r.mode (terms.is_true (r.term d)) }
open_sure_both s d (guard.Par false) e = absurd (cc)
open_sure_both s d (guard.Open c) e = absurd (cc)

-- ---- sets that count where a node is true

counted_by : (m : Mode) (p b : Bool) → open_sure m (not p || b) ≡ counted_set m (Some (if_given m p)) (open_sure m b)
counted_by (Blank n) p b = refl
counted_by (Given f) p b = refl

or_true : (a : Bool) → true ≡ (a || true)
or_true true = refl
or_true false = refl

or_false : (a : Bool) → a ≡ (a || false)
or_false true = refl
or_false false = refl

pub there_counts : (m : Mode) (p : Bool) → open_sure m true ≡ counted_set m (Some (if_given m p)) (record { par = true; is = true })
there_counts (Blank n) p = refl
there_counts (Given f) p = ap (λ (b : Bool). record { par = false; is = b }) (or_true (not p))

pub none_counts : (m : Mode) (p : Bool) → open_sure m (not p) ≡ counted_set m (Some (if_given m p)) (record { par = true; is = false })
none_counts (Blank n) p = refl
none_counts (Given f) p = ap (λ (b : Bool). record { par = false; is = b }) (or_false (not p))

pub var_counts : (m : Mode) (p b q : Bool) (s : Sure) → q ≡ (not p || b) → open_sure m b ≡ open_sure m s.is → open_sure m q ≡ counted_set m (Some (if_given m p)) s
var_counts (Blank n) p b q s e h = refl
var_counts (Given f) p b q s e h = ap (λ (b : Bool). record { par = false; is = b }) e ∙ ap (λ (x : Sure). record { par = false; is = not p || x.is }) h

pub there_where : (old new : Run) (d id : ℕ) (b : Bool) → b ≡ true → Says old new (λ _. true) id → IsSure old new (λ r. counted_set r.mode (where_true r d) (record { par = true; is = b })) (guard.Open id)
there_where old new d id true e s = record { same = s.same; is = λ r h. ap (open_sure r.mode) (s.tells r h) ∙ there_counts r.mode (terms.is_true (r.term d)) }
there_where old new d id false e s = absurd (cc)

pub none_where : (old mid new : Run) (d id : ℕ) (b : Bool) → b ≡ false → ((r : Reading) → state_of r old ≡ state_of r mid) → Says mid new (λ r. not (terms.is_true (r.term d))) id → IsSure old new (λ r. counted_set r.mode (where_true r d) (record { par = true; is = b })) (guard.Open id)
none_where old mid new d id false e w s = record { same = λ r h. w r ∙ s.same r h; is = λ r h. ap (open_sure r.mode) (s.tells r h) ∙ none_counts r.mode (terms.is_true (r.term d)) }
none_where old mid new d id true e w s = absurd (cc)

-- a guard that was made after charges were drawn
pub drawn_sure : (old mid new : Run) (f : Reading → Sure) (g : Guard) → ((r : Reading) → state_of r old ≡ state_of r mid) → IsGuard mid new f g → IsSure old new f g
drawn_sure old mid new f g s h = record { same = λ r q. s r ∙ h.same r q; is = λ r q. h.is r q }

pub drawn_tells : (old mid new : Run) (f : Reading → Bool) (id : ℕ) → ((r : Reading) → state_of r old ≡ state_of r mid) → Tells mid new f id → Tells old new f id
drawn_tells old mid new f id s h = record { same = λ r q. s r ∙ h.same r q; tells = λ r q. h.tells r q }

pub implied_tells : (n : ℕ) (old mid new : Run) (a b neg id : ℕ) → Says old mid (λ r. not (terms.is_true (r.term a))) neg → GoesOnBy n mid new → Says mid new (λ r. terms.is_true (r.term neg) || terms.is_true (r.term b)) id → Tells old new (λ r. not (terms.is_true (r.term a)) || terms.is_true (r.term b)) id
implied_tells n old mid new a b neg id s g t = record {
  same = λ r h. s.same r (g.back r h) ∙ t.same r h;
  tells = λ r h. t.tells r h ∙ ap (λ p. p || terms.is_true (r.term b)) (s.tells r (g.back r h));
}
