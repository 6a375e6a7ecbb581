-- The arguments of a well-formed program have texts.
use Rattle.std.proofs.Common.{◌≡◌, ℕ, zero, suc, ◌<◌, List, [], ◌∷◌, length, Bool, true, false, refl, arith, Some}
use Rattle.std.specs.Prelude.{◌||◌}
use Rattle.std.specs.List.{AllByRecursion, list_all, list_any}
use Rattle.std.proofs.lemmas.Bool.{false≢true, eqb-true, and_parts}
use Rattle.std.proofs.lemmas.List.{length-map}
use Rattle.fz_program.specs.Arguments.{Plain, bool, int, set, var, nested, Argument, one, array}
use Rattle.fz_program.specs.Flat.{Variable, are_arguments, are_alike, are_variables_of, has_variable, is_argument, is_constant, is_definition, is_literal, is_plain, is_set, is_variable, is_variable_of, labels_of, same_kind}
use Rattle.fz_program.specs.declared.row_name.Kind.{Kind}
use Rattle.fz_program.specs.declared.row_name.Kind.TheVariants.{Int, Bool as Truth, Set, ConstInt, Ints, Bools, Sets, ConstInts, ConstBools, ConstSets}
use Rattle.fz_program.proofs.Sets.{literal_in, set_in}
use Rattle.fz_text.proofs.PartsAgain.{either}
use Rattle.fz_text.proofs.ArgumentsAgain.{HasText, HasTexts}

is_there : (vs : List Variable) (kind : Kind) (k : ℕ) → is_variable_of vs kind k ≡ true → k < length vs
is_there [] kind k e = absurd (false≢true e)
is_there (v ∷ vs) kind zero e = omega arith
is_there (v ∷ vs) kind (suc k) e = omega (arith, is_there vs kind k e)

pub place_is_there : (vs : List Variable) (kind : Kind) (k : ℕ) → is_variable_of vs kind k ≡ true → k < length (labels_of vs)
place_is_there vs kind k e = rw length-map (is_there vs kind k e)

constant_has : (vs : List Variable) (kind : Kind) (p : Plain) → is_constant kind p ≡ true → HasText (labels_of vs) p
unfolding is_constant
constant_has vs kind (bool b) e = tt
constant_has vs kind (int n) e = literal_in n (and_parts (same_kind kind Int) (is_literal n) e).1
constant_has vs kind (set s) e = set_in s (and_parts (same_kind kind Set) (is_set s) e).1
constant_has vs kind (var k) e = absurd (false≢true e)
constant_has vs kind nested e = absurd (false≢true e)

plain_has : (vs : List Variable) (kind : Kind) (p : Plain) → is_plain vs kind p ≡ true → HasText (labels_of vs) p
unfolding is_plain
plain_has vs kind (bool b) e = constant_has vs kind (bool b) e
plain_has vs kind (int n) e = constant_has vs kind (int n) e
plain_has vs kind (set s) e = constant_has vs kind (set s) e
plain_has vs kind (var k) e = place_is_there vs kind k e
plain_has vs kind nested e = constant_has vs kind nested e

all_have : (vs : List Variable) (test : Plain → Bool) → ((p : Plain) → test p ≡ true → HasText (labels_of vs) p) → (ps : List Plain) → list_all test ps ≡ true → AllByRecursion (HasText (labels_of vs)) ps
all_have vs test f [] e = tt
all_have vs test f (p ∷ ps) e = let parts = and_parts (test p) (list_all test ps) e in (f p parts.0, all_have vs test f ps parts.1)

argument_has : (vs : List Variable) (kind : Kind) (a : Argument) → is_argument vs kind a ≡ true → HasTexts (labels_of vs) a
unfolding is_argument
argument_has vs Int (one p) e = plain_has vs Int p e
argument_has vs Int (array ps) e = absurd (false≢true e)
argument_has vs Truth (one p) e = plain_has vs Truth p e
argument_has vs Truth (array ps) e = absurd (false≢true e)
argument_has vs Set (one p) e = plain_has vs Set p e
argument_has vs Set (array ps) e = absurd (false≢true e)
argument_has vs ConstInt (one p) e = constant_has vs Int p e
argument_has vs ConstInt (array ps) e = absurd (false≢true e)
argument_has vs Ints (one p) e = absurd (false≢true e)
argument_has vs Ints (array ps) e = all_have vs (is_plain vs Int) (plain_has vs Int) ps e
argument_has vs Bools (one p) e = absurd (false≢true e)
argument_has vs Bools (array ps) e = all_have vs (is_plain vs Truth) (plain_has vs Truth) ps e
argument_has vs Sets (one p) e = absurd (false≢true e)
argument_has vs Sets (array ps) e = all_have vs (is_plain vs Set) (plain_has vs Set) ps e
argument_has vs ConstInts (one p) e = absurd (false≢true e)
argument_has vs ConstInts (array ps) e = all_have vs (is_constant Int) (constant_has vs Int) ps e
argument_has vs ConstBools (one p) e = absurd (false≢true e)
argument_has vs ConstBools (array ps) e = all_have vs (is_constant Truth) (constant_has vs Truth) ps e
argument_has vs ConstSets (one p) e = absurd (false≢true e)
argument_has vs ConstSets (array ps) e = all_have vs (is_constant Set) (constant_has vs Set) ps e

pub arguments_have : (vs : List Variable) (kinds : List Kind) (xs : List Argument) → are_arguments vs kinds xs ≡ true → AllByRecursion (HasTexts (labels_of vs)) xs
unfolding are_arguments
arguments_have vs [] [] e = tt
arguments_have vs [] (x ∷ xs) e = absurd (false≢true e)
arguments_have vs (k ∷ ks) [] e = absurd (false≢true e)
arguments_have vs (k ∷ ks) (x ∷ xs) e = let parts = and_parts (is_argument vs k x) (are_arguments vs ks xs) e in (argument_has vs k x parts.0, arguments_have vs ks xs parts.1)

-- the places of an array's elements
places_are_there : (vs : List Variable) (kind : Kind) (ks : List ℕ) → are_variables_of vs kind ks ≡ true → AllByRecursion (λ k. k < length (labels_of vs)) ks
places_are_there vs kind [] e = tt
places_are_there vs kind (k ∷ ks) e = let parts = and_parts (is_variable_of vs kind k) (are_variables_of vs kind ks) e in (place_is_there vs kind k parts.0, places_are_there vs kind ks parts.1)

one_of_three : {P : Type 0} (a b c : Bool) → (a ≡ true → P) → (b ≡ true → P) → (c ≡ true → P) → (a || (b || c)) ≡ true → P
one_of_three true b c f g h e = f refl
one_of_three false true c f g h e = g refl
one_of_three false false c f g h e = h e

pub items_are_there : (vs : List Variable) (ks : List ℕ) → are_alike vs ks ≡ true → AllByRecursion (λ k. k < length (labels_of vs)) ks
items_are_there vs ks e = one_of_three (are_variables_of vs Int ks) (are_variables_of vs Truth ks) (are_variables_of vs Set ks) (places_are_there vs Int ks) (places_are_there vs Truth ks) (places_are_there vs Set ks) e

-- a variable that a row defines is one of its arguments, so it is there
plain_place : (vs : List Variable) (k : ℕ) (p : Plain) → HasText (labels_of vs) p → is_variable k p ≡ true → k < length (labels_of vs)
plain_place vs k (bool b) h e = absurd (false≢true e)
plain_place vs k (int n) h e = absurd (false≢true e)
plain_place vs k (set s) h e = absurd (false≢true e)
plain_place vs k (var j) h e = let same = eqb-true j k e in omega (arith, h, same)
plain_place vs k nested h e = absurd h

some_place : (vs : List Variable) (k : ℕ) (ps : List Plain) → AllByRecursion (HasText (labels_of vs)) ps → list_any (is_variable k) ps ≡ true → k < length (labels_of vs)
some_place vs k [] h e = absurd (false≢true e)
some_place vs k (p ∷ ps) h e = either (is_variable k p) (list_any (is_variable k) ps) (plain_place vs k p h.0) (some_place vs k ps h.1) e

argument_place : (vs : List Variable) (k : ℕ) (a : Argument) → HasTexts (labels_of vs) a → has_variable k a ≡ true → k < length (labels_of vs)
argument_place vs k (one p) h e = plain_place vs k p h e
argument_place vs k (array ps) h e = some_place vs k ps h e

pub defined_place : (vs : List Variable) (k : ℕ) (xs : List Argument) → AllByRecursion (HasTexts (labels_of vs)) xs → is_definition xs (Some k) ≡ true → k < length (labels_of vs)
defined_place vs k [] h e = absurd (false≢true e)
defined_place vs k (x ∷ xs) h e = either (has_variable k x) (list_any (has_variable k) xs) (argument_place vs k x h.0) (defined_place vs k xs h.1) e
