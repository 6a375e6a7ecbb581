-- A chain that groups to the right, from its last operator on.
use Rattle.std.proofs.Common.{◌≡◌, ℕ, ◌+◌, List, [], ◌∷◌, ◌++◌, Option, Some, None, Ok, Err, refl, sym, ap, ◌∙◌, map, length, reverse, arith}
use Rattle.std.specs.Option.{MatchOption}
use Rattle.std.proofs.lemmas.List.{map-append, reverse-append}
use Rattle.mz_base.specs.declared.fault.Span.{Span}
use Rattle.mz_base.specs.declared.fault.Fault.{Fault}
use Rattle.mz_core.specs.Types.{PlainType}
use Rattle.mz_core.specs.Tree.{Tree, Step, type_of}
use Rattle.mz_core.specs.TreeViews.{tree}
use Rattle.mz_check_meaning.specs.Tests.{Test, ◌>>=◌}
use Rattle.mz_check_meaning.specs.Chains.{Operand, Chained, from_right}
use Rattle.mz_check_calls.specs.declared.chains.Operand.{Operand as Typed}
use Rattle.mz_check_calls.specs.declared.chains.Chained.{Chained as Done}
use Rattle.mz_check_calls.specs.StepsChains.{preceded, all_preceded}
use Rattle.mz_check_calls.specs.Views.{operand, chained, chained_back}

in_turn : {A B C : Type 0} (r : Test A) (f : A → Test B) (g : B → Test C) → ((r >>= f) >>= g) ≡ (r >>= λ x. f x >>= g)
in_turn (Ok x) f g = refl
in_turn (Err e) f g = refl

as_is : {A : Type 0} (r : Test A) → (r >>= λ x. Ok x) ≡ r
as_is (Ok x) = refl
as_is (Err e) = refl

-- the operand before those after these
abbrev place_at : Span → List Operand → Span
place_at at [] = at
place_at at (o ∷ os) = place_at o.operator.start os

abbrev type_at : PlainType → List Operand → PlainType
type_at t [] = t
type_at t (o ∷ os) = type_at (type_of o.tree) os

abbrev last_type : Tree → List Operand → PlainType
last_type e os = type_at (type_of e) os

-- the last of these operators comes before those that are typed, and the others before it
last_first : (at : Span) (t : PlainType) (os : List Operand) (o : Operand) (after : Chained)
    → all_preceded at t (os ++ o ∷ []) after ≡ (preceded (place_at at os) (type_at t os) o after >>= λ more. all_preceded at t os more)
unfolding all_preceded
last_first at t [] o after = sym (as_is (preceded at t o after))
last_first at t (p ∷ os) o after =
    ap (λ (r : Test Chained). r >>= preceded at t p) (last_first p.operator.start (type_of p.tree) os o after)
    ∙ in_turn (preceded (place_at p.operator.start os) (type_at (type_of p.tree) os) o after) (all_preceded p.operator.start (type_of p.tree) os) (preceded at t p)

place_last : (at : Span) (os : List Operand) (p : Operand) → place_at at (os ++ p ∷ []) ≡ p.operator.start
place_last at [] p = refl
place_last at (o ∷ os) p = place_last o.operator.start os p

type_last : (t : PlainType) (os : List Operand) (p : Operand) → type_at t (os ++ p ∷ []) ≡ type_of p.tree
type_last t [] p = refl
type_last t (o ∷ os) p = type_last (type_of o.tree) os p

-- one step of the loop: the operator of the last operand, whose left operand is the one before it
one_preceded : (at : Span) (t : PlainType) (os : List Operand) (p o : Operand) (after : Chained)
    → all_preceded at t ((os ++ p ∷ []) ++ o ∷ []) after ≡ (preceded p.operator.start (type_of p.tree) o after >>= λ more. all_preceded at t (os ++ p ∷ []) more)
one_preceded at t os p o after =
    last_first at t (os ++ p ∷ []) o after
    ∙ ap (λ (s : Span). preceded s (type_at t (os ++ p ∷ [])) o after >>= λ more. all_preceded at t (os ++ p ∷ []) more) (place_last at os p)
    ∙ ap (λ (u : PlainType). preceded p.operator.start u o after >>= λ more. all_preceded at t (os ++ p ∷ []) more) (type_last t os p)

first_preceded : (at : Span) (t : PlainType) (o : Operand) (after : Chained) → all_preceded at t (o ∷ []) after ≡ preceded at t o after
unfolding all_preceded
first_preceded at t o after = refl

abbrev start : PlainType → Chained
start t = record { ty = t; done = [] }

-- all operators, before none
all_before : (at : Span) (e : Tree) (os : List Operand) → from_right at e os ≡ all_preceded at (type_of e) os (start (last_type e os))
unfolding from_right all_preceded
all_before at e [] = refl
all_before at e (o ∷ os) = ap (λ (r : Test Chained). r >>= preceded at (type_of e) o) (all_before o.operator.start o.tree os)

pub from_the_last : (at : Span) (e : Tree) (os : List Operand) (o : Operand) → from_right at e (os ++ o ∷ []) ≡ all_preceded at (type_of e) (os ++ o ∷ []) (start (type_of o.tree))
from_the_last at e os o =
    all_before at e (os ++ o ∷ []) ∙ ap (λ (t : PlainType). all_preceded at (type_of e) (os ++ o ∷ []) (start t)) (type_last (type_of e) os o)

pub from_none : (at : Span) (e : Tree) → from_right at e [] ≡ Ok (start (type_of e))
unfolding from_right
from_none at e = refl

-- THE STEPS OF THE LOOP

pub apart : (old rest : List Typed) (o : Typed) → old ≡ rest ++ o ∷ [] → map operand old ≡ map operand rest ++ operand o ∷ []
apart old rest o is = ap (map operand) is ∙ map-append operand rest (o ∷ [])

-- what is left, before what is done
abbrev pub left_before : Span → PlainType → List Typed → Typed → Chained → Test Chained
left_before at t before right after = all_preceded at t (map operand before ++ operand right ∷ []) after

on_to : (at : Span) (t : PlainType) (old rest : List Typed) (p o : Typed) (after : Chained) → old ≡ rest ++ p ∷ []
    → left_before at t old o after ≡ (preceded p.operator.start (type_of (tree p.tree)) (operand o) after >>= λ more. left_before at t rest p more)
on_to at t old rest p o after is =
    ap (λ (os : List Operand). all_preceded at t (os ++ operand o ∷ []) after) (apart old rest p is) ∙ one_preceded at t (map operand rest) (operand p) (operand o) after

same_step : (s : Span) (u ty : PlainType) (o : Operand) (after : Chained) (r : Test Chained) → u ≡ ty → preceded s u o after ≡ r → preceded s ty o after ≡ r
same_step s u ty o after r same is = ap (λ (x : PlainType). preceded s x o after) (sym same) ∙ is

pub step_taken : (at : Span) (t : PlainType) (whole : Test Chained) (old rest : List Typed) (p o : Typed) (after next : Chained) (u : PlainType) → whole ≡ left_before at t old o after
    → old ≡ rest ++ p ∷ [] → u ≡ type_of (tree p.tree) → preceded p.operator.start u (operand o) after ≡ Ok next → whole ≡ left_before at t rest p next
step_taken at t whole old rest p o after next u so_far is ty done =
    so_far
    ∙ on_to at t old rest p o after is
    ∙ ap (λ (r : Test Chained). r >>= λ more. left_before at t rest p more) (same_step p.operator.start u (type_of (tree p.tree)) (operand o) after (Ok next) ty done)

pub step_stopped : (at : Span) (t : PlainType) (whole : Test Chained) (old rest : List Typed) (p o : Typed) (after : Chained) (f : Fault) (u : PlainType) → whole ≡ left_before at t old o after
    → old ≡ rest ++ p ∷ [] → u ≡ type_of (tree p.tree) → preceded p.operator.start u (operand o) after ≡ Err f → whole ≡ Err f
step_stopped at t whole old rest p o after f u so_far is ty refused =
    so_far
    ∙ on_to at t old rest p o after is
    ∙ ap (λ (r : Test Chained). r >>= λ more. left_before at t rest p more) (same_step p.operator.start u (type_of (tree p.tree)) (operand o) after (Err f) ty refused)

pub step_last : (at : Span) (t : PlainType) (whole : Test Chained) (old : List Typed) (o : Typed) (after : Chained) → whole ≡ left_before at t old o after → old ≡ [] → whole ≡ preceded at t (operand o) after
step_last at t whole old o after so_far none =
    so_far ∙ ap (λ (os : List Typed). left_before at t os o after) none ∙ first_preceded at t (operand o) after

-- a list from which nothing is popped is empty
pub none_popped : {A : Type 0} (n m : ℕ) (r : Option A) → ((x : A) → r ≡ Some x → ⊥) → MatchOption r ((n ≡ 0) × (m ≡ 0)) (λ _. m + 1 ≡ n) → n ≡ 0
none_popped n m None other cases = cases.0
none_popped n m (Some x) other cases = absurd (other x refl)

pub none_there : {A : Type 0} (xs : List A) → length xs ≡ 0 → xs ≡ []
none_there [] h = refl
none_there (x ∷ xs) h = absurd (omega (arith, h))

-- FROM THE END ON

reverse_more : {A : Type 0} (xs : List A) (x : A) → reverse (xs ++ x ∷ []) ≡ x ∷ reverse xs
reverse_more xs x = reverse-append xs (x ∷ [])

reverse_first : {A : Type 0} (x : A) (xs : List A) → reverse (x ∷ xs) ≡ reverse xs ++ x ∷ []
reverse_first x xs = reverse-append (x ∷ []) xs

pub map_reverse : {A B : Type 0} (f : A → B) (xs : List A) → map f (reverse xs) ≡ reverse (map f xs)
map_reverse f [] = refl
map_reverse {A} {B} f (x ∷ xs) =
    ap (map f) (reverse_first x xs) ∙ map-append f (reverse xs) (x ∷ []) ∙ ap (λ (ys : List B). ys ++ f x ∷ []) (map_reverse f xs) ∙ sym (reverse_first (f x) (map f xs))

abbrev back : Chained → Chained
back c = record { ty = c.ty; done = reverse c.done }

pub back_of_none : (c : Done) (t : PlainType) → chained c ≡ start t → chained_back c ≡ start t
back_of_none c t is = ap back is

abbrev with_done : PlainType → List Step → Chained
with_done t ss = record { ty = t; done = ss }

-- one more at the end is first from the end on
pub back_of_more : (c : Done) (ss : List Step) (s : Step) → chained c ≡ record { ty = s.ty; done = ss ++ s ∷ [] } → chained_back c ≡ record { ty = s.ty; done = s ∷ reverse ss }
back_of_more c ss s is = ap back is ∙ ap (with_done s.ty) (reverse_more ss s)
