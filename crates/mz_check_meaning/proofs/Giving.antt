-- What holds of what tests give.
use Rattle.std.proofs.Common.{Bool, true, false, cond, List, [], ◌∷◌, ◌++◌, Ok, Err, map, zero, suc, arith}
use Rattle.std.specs.Prelude.{All}
use Rattle.mz_base.specs.declared.fault.Fault.{Fault}
use Rattle.mz_check_meaning.specs.Tests.{Test, ◌>>=◌, loop, one_more, each}

-- each of a list is so
abbrev pub AllBy : {A : Type 0} → (A → Type 0) → List A → Type 0
AllBy Q [] = Unit {0}
AllBy Q (x ∷ xs) = Q x × AllBy Q xs

pub all_both : {A : Type 0} (Q : A → Type 0) (xs ys : List A) → AllBy Q xs → AllBy Q ys → AllBy Q (xs ++ ys)
all_both Q [] ys h k = k
all_both Q (x ∷ xs) ys h k = (h.0, all_both Q xs ys h.1 k)

pub all_mapped : {A B : Type 0} (Q : A → Type 0) (R : B → Type 0) (f : A → B) (xs : List A) → ((x : A) → Q x → R (f x)) → AllBy Q xs → AllBy R (map f xs)
all_mapped Q R f [] go h = tt
all_mapped Q R f (x ∷ xs) go h = (go x h.0, all_mapped Q R f xs go h.1)

pub all_indexed : {A : Type 0} (Q : A → Type 0) (xs : List A) → AllBy Q xs → All Q xs
all_indexed Q [] h k d low = absurd (omega (arith, low))
all_indexed Q (x ∷ xs) h zero d low = h.0
all_indexed Q (x ∷ xs) h (suc k) d low = all_indexed Q xs h.1 k d (omega (arith, low))

-- what a test gives, if it gives something
abbrev pub Gives : {A : Type 0} → Test A → (A → Type 0) → Type 0
Gives (Ok x) Q = Q x
Gives (Err f) Q = Unit {0}

pub gives_then : {A B : Type 0} (Q : A → Type 0) (R : B → Type 0) (t : Test A) (go : A → Test B) → Gives t Q → ((x : A) → Q x → Gives (go x) R) → Gives (t >>= go) R
gives_then Q R (Ok x) go h step = step x h
gives_then Q R (Err f) go h step = tt

-- whatever the first gives
pub gives_after : {A B : Type 0} (R : B → Type 0) (t : Test A) (go : A → Test B) → ((x : A) → Gives (go x) R) → Gives (t >>= go) R
gives_after R (Ok x) go step = step x
gives_after R (Err f) go step = tt

pub gives_more : {A : Type 0} (Q R : A → Type 0) (t : Test A) → ((x : A) → Q x → R x) → Gives t Q → Gives t R
gives_more Q R (Ok x) go h = go x h
gives_more Q R (Err f) go h = tt

pub gives_if : {A : Type 0} (Q : A → Type 0) (b : Bool) (x : A) (f : Fault) → Q x → Gives (cond b (Ok x) (Err f)) Q
gives_if Q true x f h = h
gives_if Q false x f h = tt

pub loop_gives : {A S : Type 0} (I : S → Type 0) (step : S → A → Test S) (acc : S) (xs : List A) → I acc → AllBy (λ x. (s : S) → I s → Gives (step s x) I) xs → Gives (loop step acc xs) I
loop_gives I step acc [] start steps = start
loop_gives I step acc (x ∷ xs) start steps = gives_then I I (step acc x) (λ next. loop step next xs) (steps.0 acc start) (λ s h. loop_gives I step s xs h steps.1)

more_gives : {A B : Type 0} (Q : B → Type 0) (go : A → Test B) (done : List B) (xs : List A) → AllBy Q done → AllBy (λ x. Gives (go x) Q) xs → Gives (loop (one_more go) done xs) (AllBy Q)
more_gives Q go done [] h steps = h
more_gives Q go done (x ∷ xs) h steps =
    gives_then (AllBy Q) (AllBy Q) (one_more go done x) (λ next. loop (one_more go) next xs)
    (gives_then Q (AllBy Q) (go x) (λ y. Ok (done ++ y ∷ [])) steps.0 (λ y q. all_both Q done (y ∷ []) h (q, tt)))
    (λ ys k. more_gives Q go ys xs k steps.1)

pub each_gives : {A B : Type 0} (Q : B → Type 0) (go : A → Test B) (xs : List A) → AllBy (λ x. Gives (go x) Q) xs → Gives (each go xs) (AllBy Q)
each_gives Q go xs steps = more_gives Q go [] xs tt steps
