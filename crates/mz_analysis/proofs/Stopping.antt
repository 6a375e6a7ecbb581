-- Tests that stop with a kind of theirs, at places of some sort.
use Rattle.std.proofs.Common.{ℕ, Bool, true, false, List, [], ◌∷◌, ◌++◌}
use Rattle.std.specs.Prelude.{Option, Some, None, Ok, Err, nat_eq, if◌then◌else◌}
use Rattle.std.specs.List.{AllByRecursion}
use Rattle.mz_base.specs.declared.fault.Span.{Span}
use Rattle.mz_base.specs.declared.fault.Fault.{Fault}
use Rattle.mz_base.specs.declared.kind.Kind.{Kind}
use Rattle.mz_check_meaning.specs.Tests.{Test, ◌>>=◌, require, found, loop, one_more, each, maybe_some, if_there}
use Rattle.mz_check_meaning.specs.Models.{entry_of}
use Rattle.mz_analysis.specs.Analysis.{IsOfTests}

-- lists
pub both_all : {A : Type 0} (K : A → Type 0) (xs ys : List A) → AllByRecursion K xs → AllByRecursion K ys → AllByRecursion K (xs ++ ys)
both_all K [] ys h k = k
both_all K (x ∷ xs) ys h k = (h.0, both_all K xs ys h.1 k)

pub one_more_all : {A : Type 0} (K : A → Type 0) (xs : List A) (x : A) → AllByRecursion K xs → K x → AllByRecursion K (xs ++ x ∷ [])
one_more_all K xs x h k = both_all K xs (x ∷ []) h (k, tt)

abbrev pub OfSome : {A : Type 0} → (A → Type 0) → Option A → Type 0
OfSome K None = Unit {0}
OfSome K (Some x) = K x

by_number : {A : Type 0} (K : A → Type 0) (b : Bool) (x : A) (later : Option A) → K x → OfSome K later → OfSome K (if b then Some x else later)
by_number K true x later h k = h
by_number K false x later h k = k

pub entry_all : {A : Type 0} (K : A → Type 0) (n : ℕ) (xs : List (ℕ × A)) → AllByRecursion (λ x. K x.1) xs → OfSome K (entry_of n xs)
unfolding entry_of
entry_all K n [] h = tt
entry_all K n (x ∷ xs) h = by_number K (nat_eq x.0 n) x.1 (entry_of n xs) h.0 (entry_all K n xs h.1)

module _ (P : Span → Type 0) where
  -- a refusal of the tests, at such a place
  abbrev pub Refuses : Fault → Type 0
  Refuses f = P f.span × IsOfTests f.kind

  -- it stops with such a refusal, or gives what is of a kind
  abbrev pub Stops : {A : Type 0} → (A → Type 0) → Test A → Type 0
  Stops Q (Ok x) = Q x
  Stops Q (Err f) = Refuses f

  -- whatever it gives
  abbrev pub Any : {A : Type 0} → A → Type 0
  Any x = Unit {0}

  pub next : {A B : Type 0} (Q : A → Type 0) (R : B → Type 0) (m : Test A) (go : A → Test B) → Stops Q m → ((x : A) → Q x → Stops R (go x)) → Stops R (m >>= go)
  next Q R (Ok x) go h k = k x h
  next Q R (Err f) go h k = h

  pub required : (b : Bool) (kind : Kind) (at : Span) → P at × IsOfTests kind → Stops Any (require b kind at)
  required true kind at p = tt
  required false kind at p = p

  pub is_found : {A : Type 0} (kind : Kind) (at : Span) (o : Option A) → P at × IsOfTests kind → Stops Any (found kind at o)
  is_found kind at None p = p
  is_found kind at (Some x) p = tt

  pub looped : {A S : Type 0} (K : A → Type 0) (Q : S → Type 0) (step : S → A → Test S) → ((acc : S) (x : A) → Q acc → K x → Stops Q (step acc x)) → (xs : List A) → AllByRecursion K xs → (acc : S) → Q acc → Stops Q (loop step acc xs)
  looped K Q step go [] h acc q = q
  looped K Q step go (x ∷ xs) h acc q = next Q Q (step acc x) (λ made. loop step made xs) (go acc x q h.0) (λ made r. looped K Q step go xs h.1 made r)

  pub each_stops : {A B : Type 0} (K : A → Type 0) (R : B → Type 0) (go : A → Test B) → ((x : A) → K x → Stops R (go x)) → (xs : List A) → AllByRecursion K xs → Stops (AllByRecursion R) (each go xs)
  each_stops K R go one xs h =
      looped K (AllByRecursion R) (one_more go) (λ ys x q k. next R (AllByRecursion R) (go x) (λ y. Ok (ys ++ y ∷ [])) (one x k) (λ y r. one_more_all R ys y q r)) xs h [] tt

  some_stops : {A : Type 0} (R : A → Type 0) (m : Test A) → Stops R m → Stops (OfSome R) (maybe_some m)
  some_stops R (Ok x) h = h
  some_stops R (Err f) h = h

  pub there_stops : {A B : Type 0} (K : A → Type 0) (R : B → Type 0) (go : A → Test B) → ((x : A) → K x → Stops R (go x)) → (o : Option A) → OfSome K o → Stops (OfSome R) (if_there go o)
  there_stops K R go one None h = tt
  there_stops K R go one (Some x) h = some_stops R (go x) (one x h)

  pub anyway : {A : Type 0} (Q : A → Type 0) (m : Test A) → Stops Q m → Stops Any m
  anyway Q (Ok x) h = tt
  anyway Q (Err f) h = h
