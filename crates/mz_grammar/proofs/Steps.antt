-- How readings are put together: steps towards one equation for each part of a grammar.
use Rattle.std.proofs.Common.{◌≡◌, ℕ, zero, suc, List, [], ◌∷◌, ◌++◌, map, refl, sym, ap, ◌∙◌, append_assoc, append-nil, true, false, Bool, Option, Result}
use Rattle.std.proofs.lemmas.List.{map-append}
use Rattle.std.specs.Prelude.{Ok, Err, Some, None, if◌then◌else◌}
use Rattle.mz_lexer.specs.declared.token.Token.{Token}
use Rattle.mz_grammar.specs.Rules.{too_deep}
use Rattle.mz_grammar.specs.RulesReading.{Read, Reader, Stuck, stuck, on, open_at, mapped, with_prefix, listed, ◌>>=◌}

-- the room of a call that pushed
pub open_more : {A : Type 0} (room r : ℕ) (ts : List Token) (f : ℕ → Read A) → room ≡ suc r → open_at room ts f ≡ f r
open_more room r ts f e = ap (λ m. open_at m ts f) e

pub open_none : {A : Type 0} (room : ℕ) (ts : List Token) (f : ℕ → Read A) → room ≡ 0 → open_at room ts f ≡ stuck too_deep ts
open_none room ts f e = ap (λ m. open_at m ts f) e

pub itself : {A : Type 0} (o : Read A) → (o >>= λ x. Ok (x.0, x.1)) ≡ o
itself (Ok x) = refl
itself (Err e) = refl

-- a value that is made of a list that is read
pub listed_mapped : {A B : Type 0} (f : List A → B) (separator : Reader Bool) (next : Reader (List A)) (x : A) (ts : List Token) →
    (separator ts >>= λ b. if b.0 then mapped (λ xs. f (x ∷ xs)) (next b.1) else Ok (f (x ∷ []), b.1)) ≡ mapped f (listed separator next x ts)
listed_mapped {A = A} {B = B} f separator next x ts = go (separator ts)
  where
    last : (o : Read (List A)) → mapped (λ xs. f (x ∷ xs)) o ≡ mapped f (with_prefix (x ∷ []) o)
    last (Ok y) = refl
    last (Err e) = refl

    by_flag : (b : Bool) (us : List Token) → (if b then mapped (λ xs. f (x ∷ xs)) (next us) else Ok (f (x ∷ []), us)) ≡ mapped f (if b then with_prefix (x ∷ []) (next us) else Ok (x ∷ [], us))
    by_flag true us = last (next us)
    by_flag false us = refl

    go : (o : Read Bool) → (o >>= λ b. if b.0 then mapped (λ xs. f (x ∷ xs)) (next b.1) else Ok (f (x ∷ []), b.1)) ≡ mapped f (o >>= λ b. if b.0 then with_prefix (x ∷ []) (next b.1) else Ok (x ∷ [], b.1))
    go (Ok b) = by_flag b.0 b.1
    go (Err e) = refl

-- what was read first, in two pieces
pub prefix_prefix : {A : Type 0} (xs ys : List A) (o : Read (List A)) → with_prefix xs (with_prefix ys o) ≡ with_prefix (xs ++ ys) o
prefix_prefix xs ys (Ok x) = ap (λ l. Ok (l, x.1)) (sym (append_assoc xs ys x.0))
prefix_prefix xs ys (Err e) = refl

pub prefix_more : {A : Type 0} (xs : List A) (x : A) (o : Read (List A)) → with_prefix (xs ++ (x ∷ [])) o ≡ with_prefix xs (with_prefix (x ∷ []) o)
prefix_more xs x o = sym (prefix_prefix xs (x ∷ []) o)

pub prefix_push : {A X : Type 0} (f : X → A) (xs : List X) (x : X) (o : Read (List A)) → with_prefix (map f (xs ++ (x ∷ []))) o ≡ with_prefix (map f xs) (with_prefix (f x ∷ []) o)
prefix_push f xs x o = ap (λ l. with_prefix l o) (map-append f xs (x ∷ [])) ∙ prefix_more (map f xs) (f x) o

pub nothing_behind : {A : Type 0} (xs : List A) → xs ++ [] ≡ xs
nothing_behind xs = append-nil xs

pub no_prefix : {A : Type 0} (o : Read (List A)) → with_prefix [] o ≡ o
no_prefix (Ok x) = refl
no_prefix (Err e) = refl

pub then_prefix : {A B : Type 0} (x : A) (o : Read (List A)) (f : List A → Reader B) → (o >>= λ y. f (x ∷ y.0) y.1) ≡ (with_prefix (x ∷ []) o >>= λ y. f y.0 y.1)
then_prefix x (Ok y) f = refl
then_prefix x (Err e) f = refl

-- a list that is turned into another, element by element
pub mapped_prefix : {A B : Type 0} (f : A → B) (x : A) (o : Read (List A)) → mapped (λ xs. map f xs) (with_prefix (x ∷ []) o) ≡ with_prefix (f x ∷ []) (mapped (λ xs. map f xs) o)
mapped_prefix f x (Ok y) = refl
mapped_prefix f x (Err e) = refl

-- one reading after another, in two groups
pub grouped : {A B C : Type 0} (o : Read A) (f : A × List Token → Read B) (g : B × List Token → Read C) → (o >>= λ x. f x >>= g) ≡ ((o >>= f) >>= g)
grouped (Ok x) f g = refl
grouped (Err e) f g = refl

-- the same continuations
pub same_then : {A B : Type 0} (o : Result A Stuck) (f g : A → Read B) → ((x : A) → f x ≡ g x) → (o >>= f) ≡ (o >>= g)
same_then (Ok x) f g h = h x
same_then (Err e) f g h = refl

pub same_if : {A : Type 0} (b : Bool) {p q r s : A} → p ≡ r → q ≡ s → (if b then p else q) ≡ (if b then r else s)
same_if true h g = h
same_if false h g = g

pub same_on : {A B : Type 0} (o : Option A) {p q : B} (f g : A → B) → p ≡ q → ((x : A) → f x ≡ g x) → on o p f ≡ on o q g
same_on None f g h k = h
same_on (Some x) f g h k = k x

pub same_open : {A : Type 0} (room : ℕ) (ts : List Token) (f g : ℕ → Read A) → ((r : ℕ) → f r ≡ g r) → open_at room ts f ≡ open_at room ts g
same_open zero ts f g h = refl
same_open (suc r) ts f g h = h r
