-- Runs that are joined: where each part has an outline, so has the whole.
use Rattle.std.proofs.Common.{◌≡◌, ℕ, ◌+◌, ℤ, pos, Bool, true, false, List, [], ◌∷◌, map, append-nil, refl, sym, ap, ◌∙◌, subst, nat_lt, if◌then◌else◌}
use Rattle.mz_base.specs.declared.fault.Span.{Span}
use Rattle.mz_base.specs.declared.fault.Fault.{Fault}
use Rattle.mz_base.specs.declared.kind.Kind.{Kind}
use Rattle.mz_base.specs.declared.kind.Kind.TheVariants as kind
use Rattle.mz_meaning.specs.Runs.{Run, State, Answer, Out, Stopped, then_do, fault, give, stop, spend, loop, when, noted, weigh}
use Rattle.mz_meaning.specs.Cells.{Mode, Blank, Given}
use Rattle.mz_meaning.specs.Domains.{Domain}
use Rattle.mz_meaning.specs.Solutions.{Each}
use Rattle.mz_meaning_laws.specs.Outlines.{outline_state}
use Rattle.mz_meaning_laws.specs.Ties.{Tie, Equal, Untesting, Strict, Without, may_part, Takes, IsTied, HasOutline, HasNotes}

-- ---- where the two may part

outs_never_part : {A B : Type 0} (t : Tie) (x : A) (q : State) (y : B) (r : State) → may_part t (Out x q) (Out y r) ≡ false
outs_never_part Equal x q y r = refl
outs_never_part Untesting x q y r = refl
outs_never_part Strict x q y r = refl
outs_never_part Without x q y r = refl

-- an answer that goes on parts no more than what follows; the four types are those of the two runs, and of what follows
part_at_blank : (A B C D : Type 0) (t : Tie) (x : A) (q : State) (d : Fault) (a : Answer C) → may_part {A = C} {B = D} t a (Stopped d) ≡ false → may_part {A = A} {B = B} t (Out x q) (Stopped d) ≡ false
part_at_blank A B C D Equal x q d a i = refl
part_at_blank A B C D Untesting x q d a i = refl
part_at_blank A B C D Strict x q d a i = i
part_at_blank A B C D Without x q d a i = refl

part_at_run : (A B C D : Type 0) (t : Tie) (d : Fault) (y : B) (r : State) (b : Answer D) → may_part {A = C} {B = D} t (Stopped d) b ≡ false → may_part {A = A} {B = B} t (Stopped d) (Out y r) ≡ false
part_at_run A B C D Equal d y r b i = refl
part_at_run A B C D Untesting d y r b i = i
part_at_run A B C D Strict d y r b i = refl
part_at_run A B C D Without d y r b i = refl

stops_part : (A B C D : Type 0) (t : Tie) (d e : Fault) → may_part {A = A} {B = B} t (Stopped d) (Stopped e) ≡ false → may_part {A = C} {B = D} t (Stopped d) (Stopped e) ≡ false
stops_part A B C D Equal d e i = refl
stops_part A B C D Untesting d e i = i
stops_part A B C D Strict d e i = i
stops_part A B C D Without d e i = refl

stop_takes : (A : Type 0) (t : Tie) (s : State) (d : Fault) → Takes {A = A} t s (Stopped d)
stop_takes A Equal s d = tt
stop_takes A Untesting s d = tt
stop_takes A Strict s d = tt
stop_takes A Without s d = tt

pub out_takes : {A : Type 0} (t : Tie) (s q : State) (x : A) → q.taken ≡ s.taken → Takes t s (Out x q)
out_takes Equal s q x h = tt
out_takes Untesting s q x h = tt
out_takes Strict s q x h = h
out_takes Without s q x h = h

takes_on : {A B : Type 0} (t : Tie) (s q : State) (x : A) (a : Answer B) → Takes t s (Out x q) → Takes t q a → Takes t s a
takes_on Equal s q x a h k = tt
takes_on Untesting s q x a h k = tt
takes_on Strict s q x (Out y r) h k = k ∙ h
takes_on Strict s q x (Stopped d) h k = tt
takes_on Without s q x (Out y r) h k = k ∙ h
takes_on Without s q x (Stopped d) h k = tt

-- ---- joining. What follows in the blank run stands first: it is seen at outlines alone, so that nothing tells it

pub then_outlined : {A A' B B' : Type 0} {t : Tie} {n : Bool} {f : A → A'} {g : B → B'} {m : Run A} {m' : Run A'} {go : A → Run B} (go' : A' → Run B') → HasOutline t n f m m' → ((x : A) → HasOutline t n g (go x) (go' (f x))) → HasOutline t n g (λ s. then_do (m s) go) (λ s. then_do (m' s) go')
then_outlined {A = A} {A' = A'} {B = B} {B' = B'} {t = t} {n = n} {f = f} {g = g} {m = m} {m' = m'} {go = go} go' h k = record { by = λ s. next s (m s) (m' (outline_state n s)) (h.by s) }
  where
    next : (s : State) (a : Answer A) (b : Answer A') → IsTied t n f s a b → IsTied t n g s (then_do a go) (then_do b go')
    next s (Out x q) (Out y r) h i =
        let e = h (outs_never_part t x q y r) in
        let p : go' y r ≡ go' (f x) (outline_state n q) = ap (λ b. then_do b go') e.0 in
        let j = (k x).by q (subst (λ b. may_part t (go x q) b ≡ false) p i) in
        (p ∙ j.0, takes_on t s q x (go x q) e.1 j.1)
    next s (Out x q) (Stopped d) h i = let e = (h (part_at_blank A A' B B' t x q d (go x q) i)).0 in absurd (cc)
    next s (Stopped d) (Out y r) h i = let e = (h (part_at_run A A' B B' t d y r (go' y r) i)).0 in absurd (cc)
    next s (Stopped d) (Stopped e) h i = (ap (λ b. then_do b go') (h (stops_part B B' A A' t d e i)).0, stop_takes _ t s d)

pub give_outlined : {A B : Type 0} {t : Tie} {n : Bool} {f : A → B} {x : A} {y : B} → y ≡ f x → HasOutline t n f (give x) (give y)
give_outlined {t = t} {n = n} {x = x} h = record { by = λ s i. (ap (λ y. Out y (outline_state n s)) h, out_takes t s s x refl) }

pub stop_outlined : {A B : Type 0} {t : Tie} {n : Bool} {f : A → B} (k : Kind) (at : Span) (z : ℤ) → HasOutline t n f (stop k at z) (stop k at z)
stop_outlined {t = t} k at z = record { by = λ s i. (refl, stop_takes _ t s _) }

pub if_outlined : {A B : Type 0} {t : Tie} {n : Bool} {f : A → B} (c : Bool) {l r : Run A} {l' r' : Run B} → HasOutline t n f l l' → HasOutline t n f r r' → HasOutline t n f (if c then l else r) (if c then l' else r')
if_outlined true h k = h
if_outlined false h k = k

pub when_outlined : {A B : Type 0} {t : Tie} {n : Bool} {f : A → B} (c : Bool) {l r : Run A} {l' r' : Run B} → HasOutline t n f l l' → HasOutline t n f r r' → HasOutline t n f (when c l r) (when c l' r')
when_outlined true h k = h
when_outlined false h k = k

-- where the blank run reads something that is the same
pub at_same : {A B C : Type 0} {t : Tie} {n : Bool} {f : A → B} {m : Run A} {x y : C} (go : C → Run B) → y ≡ x → HasOutline t n f m (go x) → HasOutline t n f m (go y)
at_same {t = t} {n = n} {f = f} {m = m} go e h = subst (λ x. HasOutline t n f m (go x)) (sym e) h

-- what has no values of cells is its own outline
abbrev pub same : {A : Type 0} → A → A
same x = x

-- ---- work

spent_outlined : (t : Tie) (n c : Bool) (d : Fault) (s q q' : State) → q.taken ≡ s.taken → q' ≡ outline_state n q → IsTied t n (same {A = Unit {0}}) s (if c then Stopped d else Out tt q) (if c then Stopped d else Out tt q')
spent_outlined t n true d s q q' k h = λ i. (refl, stop_takes _ t s d)
spent_outlined t n false d s q q' k h = λ i. (ap (λ s. Out tt s) h, out_takes t s q tt k)

abbrev over_budget : ℕ → Span → Fault
over_budget b at = fault kind.Budget at (pos (b + 1))

abbrev more : State → ℕ → State
more s n = record { work = s.work + n; taken = s.taken; weight = s.weight }

pub spend_outlined : {t : Tie} {n : Bool} (b : ℕ) (at : Span) (k : ℕ) → HasOutline t n (same {A = Unit {0}}) (spend b at k) (spend b at k)
spend_outlined {t = t} {n = true} b at k = record { by = λ s. spent_outlined t true (nat_lt b (s.work + k)) (over_budget b at) s (more s k) (more s k) refl refl }
spend_outlined {t = t} {n = false} b at k = record { by = λ s. spent_outlined t false (nat_lt b (s.work + k)) (over_budget b at) s (more s k) (more (outline_state false s) k) refl refl }

-- where the blank run counts as much
pub spend_same : {t : Tie} {n : Bool} (b : ℕ) (at : Span) {k k' : ℕ} → k' ≡ k → HasOutline t n (same {A = Unit {0}}) (spend b at k) (spend b at k')
spend_same b at {k = k} e = at_same (λ j. spend b at j) e (spend_outlined b at k)

-- ---- loops

pub loop_outlined : {A S S' : Type 0} {t : Tie} {n : Bool} {f : S → S'} (step : S → A → Run S) (step' : S' → A → Run S') → ((acc : S) (x : A) → HasOutline t n f (step acc x) (step' (f acc) x)) → (acc : S) (xs : List A) → HasOutline t n f (loop step acc xs) (loop step' (f acc) xs)
loop_outlined step step' p acc [] = give_outlined refl
loop_outlined step step' p acc (x ∷ xs) = then_outlined (λ next. loop step' next xs) (p acc x) (λ next. loop_outlined step step' p next xs)

-- over outlines
pub loop_over_outlines : {A A' S S' : Type 0} {t : Tie} {n : Bool} {f : S → S'} (h : A → A') (step : S → A → Run S) (step' : S' → A' → Run S') → ((acc : S) (x : A) → HasOutline t n f (step acc x) (step' (f acc) (h x))) → (acc : S) (xs : List A) → HasOutline t n f (loop step acc xs) (loop step' (f acc) (map h xs))
loop_over_outlines h step step' p acc [] = give_outlined refl
loop_over_outlines h step step' p acc (x ∷ xs) = then_outlined (λ next. loop step' next (map h xs)) (p acc x) (λ next. loop_over_outlines h step step' p next xs)

-- over what is allowed
pub loop_each_outlined : {A S S' : Type 0} {t : Tie} {n : Bool} {f : S → S'} (P : A → Type 0) (step : S → A → Run S) (step' : S' → A → Run S') → ((acc : S) (x : A) → P x → HasOutline t n f (step acc x) (step' (f acc) x)) → (acc : S) (xs : List A) → Each P xs → HasOutline t n f (loop step acc xs) (loop step' (f acc) xs)
loop_each_outlined P step step' p acc [] h = give_outlined refl
loop_each_outlined P step step' p acc (x ∷ xs) h = then_outlined (λ next. loop step' next xs) (p acc x h.0) (λ next. loop_each_outlined P step step' p next xs h.1)

pub loop_each_over_outlines : {A A' S S' : Type 0} {t : Tie} {n : Bool} {f : S → S'} (P : A → Type 0) (h : A → A') (step : S → A → Run S) (step' : S' → A' → Run S') → ((acc : S) (x : A) → P x → HasOutline t n f (step acc x) (step' (f acc) (h x))) → (acc : S) (xs : List A) → Each P xs → HasOutline t n f (loop step acc xs) (loop step' (f acc) (map h xs))
loop_each_over_outlines P h step step' p acc [] e = give_outlined refl
loop_each_over_outlines P h step step' p acc (x ∷ xs) e = then_outlined (λ next. loop step' next (map h xs)) (p acc x e.0) (λ next. loop_each_over_outlines P h step step' p next xs e.1)

-- ---- notes

pub noted_outline : (n : Bool) (mode : Mode) → HasNotes n mode → (ds : List Domain) (k : ℕ) (s : State) → noted (Blank n) ds k (outline_state n s) ≡ outline_state n (noted mode ds k s)
noted_outline false (Blank false) h ds k s = refl
noted_outline false (Blank true) h ds k s = refl
noted_outline false (Given f) h ds k s = refl
noted_outline true (Blank false) h ds k s = absurd h
noted_outline true (Blank true) h ds k s = refl
noted_outline true (Given f) h ds k s = refl

weight_takes_none : (mode : Mode) (k : ℕ) (s : State) → (noted mode [] k s).taken ≡ s.taken
weight_takes_none (Blank false) k s = refl
weight_takes_none (Blank true) k s = append-nil s.taken
weight_takes_none (Given f) k s = append-nil s.taken

pub weigh_outlined : {t : Tie} {n : Bool} (mode : Mode) → HasNotes n mode → {k k' : ℕ} → k' ≡ k → HasOutline t n (same {A = Unit {0}}) (weigh mode k) (weigh (Blank n) k')
weigh_outlined {t = t} {n = n} mode h {k = k} e = record { by = λ s i. (ap (λ k. Out tt (noted (Blank n) [] k (outline_state n s))) e ∙ ap (λ s. Out tt s) (noted_outline n mode h [] k s), out_takes t s (noted mode [] k s) tt (weight_takes_none mode k s)) }
