-- Rows of several arguments: from what their terms tell to the rows' lines.
use Rattle.std.proofs.Common.{◌≡◌, ◌∙◌, ℕ, ℤ, Bool, ◌&&◌, List, ◌∷◌, map, Option, Some, None, is_some, refl, sym, ap}
use Rattle.mz_value.specs.Contents.{Content}
use Rattle.mz_value.specs.Contents as values
use Rattle.mz_core.specs.declared.types.Base.TheVariants as base
use Rattle.std.specs.Option.{option_map, option_and_then}
use Rattle.mz_value.specs.Ranges.{Range}
use Rattle.mz_operations.specs.Arguments.{Arguments, at, index_at}
use Rattle.mz_operations.specs.Views.{◌>>=◌, as_int, as_index}
use Rattle.mz_globals.specs.Reading.{Placed, first_range, ints_at, placed_at}
use Rattle.mz_globals.specs.declared.global.Global.{Global}
use Rattle.mz_globals.specs.Table.{line_of, truth}
use Rattle.mz_arena.specs.Values.{is_true}
use Rattle.mz_symbol.specs.Runs.{Run}
use Rattle.mz_symbol.specs.Readings.{Reading}
use Rattle.mz_symbol.specs.Makes.{GoesOnBy}
use Rattle.glob_nodes.specs.declared.arguments.Numbers.{Numbers}
use Rattle.glob_nodes.specs.Says.{Says, Tells, num}
use Rattle.glob_nodes.specs.Arguments.{array_of, elements, numbers_in, IsWhole}
use Rattle.glob_nodes.specs.Rows.{IsRow}
use Rattle.glob_nodes.proofs.Rows.{found, ints_are, array_found, number_found, row_by}
use Rattle.glob_nodes.proofs.Telling.{says_then}

pub at_fourth : (a b c d : Option Content) (rest : Arguments) → at (a ∷ b ∷ c ∷ d ∷ rest) 3 ≡ d
unfolding at
at_fourth a b c d rest = refl

-- ---- a line over what its arguments are

pub same_two : {A B E : Type 0} (f : A → B → E) (a c : A) (b d : B) → a ≡ c → b ≡ d → f a b ≡ f c d
same_two f a c b d p q = ap (λ x. f x b) p ∙ ap (f c) q

pub same_three : {A B C E : Type 0} (f : A → B → C → E) (a a' : A) (b b' : B) (c c' : C) → a ≡ a' → b ≡ b' → c ≡ c' → f a b c ≡ f a' b' c'
same_three f a a' b b' c c' p q s = ap (λ x. f x b c) p ∙ same_two (f a') b b' c c' q s

pub same_four : {A B C D E : Type 0} (f : A → B → C → D → E) (a a' : A) (b b' : B) (c c' : C) (d d' : D) → a ≡ a' → b ≡ b' → c ≡ c' → d ≡ d' → f a b c d ≡ f a' b' c' d'
same_four f a a' b b' c c' d d' p q s t = ap (λ x. f x b c d) p ∙ same_three (f a') b b' c c' d d' q s t

-- ---- an array with its index range

abbrev pub placed : Range → List ℤ → Placed ℤ
placed x ns = record { indices = x; items = ns }

abbrev pub placed_of : Range → Option (List ℤ) → Option (Placed ℤ)
placed_of x o = option_map (placed x) o

abbrev index_of : Option Content → Option Range
index_of o = option_and_then as_index o >>= first_range

abbrev placed_from : Option Range → Option (List ℤ) → Option (Placed ℤ)
placed_from i o = i >>= λ r. o >>= λ ns. Some (placed r ns)

found_index : (x : Range) (o : Option (List ℤ)) → placed_from (index_of (array_of x o)) o ≡ placed_of x o
unfolding as_index
found_index x None = refl
found_index x (Some ns) = refl

-- the array at a place
pub placed_are : (args : Arguments) (k : ℕ) (x : Range) (o : Option (List ℤ)) → at args k ≡ array_of x o → placed_at as_int args k ≡ placed_of x o
unfolding index_at
placed_are args k x o h =
    same_two placed_from (index_of (at args k)) (index_of (array_of x o)) (ints_at args k) o (ap index_of h) (ints_are args k x o h)
    ∙ found_index x o

pub two_placed : (f : Placed ℤ → Placed ℤ → Bool) (x y : Range) (o p : Option (List ℤ)) → truth (placed_of x o >>= λ us. placed_of y p >>= λ vs. Some (f us vs)) ≡ Some (values.bool (found (λ us. found (λ vs. f (placed x us) (placed y vs)) p) o))
two_placed f x y None p = refl
two_placed f x y (Some us) None = refl
two_placed f x y (Some us) (Some vs) = refl

-- ---- rows

-- these values are an array's elements
abbrev pub AreElements : Reading → Numbers → List ℤ → Type 0
AreElements r a ns = elements r a ≡ map (λ n. Some n) ns

-- of three arrays and an integer
pub arrays_number_row : (old mid new : Run) (g : Global) (args : Reading → Arguments) (f : List ℤ → List ℤ → List ℤ → ℤ → Bool) (x y z : Numbers) (w : ℕ) (b : Reading → Bool) (body id n m : ℕ)
    → ((r : Reading) → (line_of g).value (args r) ≡ Some (values.bool (found (λ us. found (λ vs. found (λ ws. found (f us vs ws) (num r w)) (numbers_in r z)) (numbers_in r y)) (numbers_in r x))))
    → ((r : Reading) (us vs ws : List ℤ) (v : ℤ) → AreElements r x us → AreElements r y vs → AreElements r z ws → num r w ≡ Some v → b r ≡ f us vs ws v)
    → IsWhole old x
    → IsWhole old y
    → IsWhole old z
    → GoesOnBy n old mid
    → Tells old mid b body
    → GoesOnBy m mid new
    → Says mid new (λ r. is_true (r.term x.defined) && (is_true (r.term y.defined) && (is_true (r.term z.defined) && (is_some (num r w) && is_true (r.term body))))) id
    → IsRow base.Bool old new g args id
arrays_number_row old mid new g args f x y z w b body id n m line told wx wy wz before t goes s =
    row_by old new g args (λ r. is_true (r.term x.defined) && (is_true (r.term y.defined) && (is_true (r.term z.defined) && (is_some (num r w) && b r)))) id
    (λ r q. ap (λ p. Some (values.bool p)) (array_found (is_true (r.term x.defined)) (elements r x) (is_true (r.term y.defined) && (is_true (r.term z.defined) && (is_some (num r w) && b r))) (λ us. found (λ vs. found (λ ws. found (f us vs ws) (num r w)) (numbers_in r z)) (numbers_in r y)) (wx r (before.back r (goes.back r q)))
    (λ us h. array_found (is_true (r.term y.defined)) (elements r y) (is_true (r.term z.defined) && (is_some (num r w) && b r)) (λ vs. found (λ ws. found (f us vs ws) (num r w)) (numbers_in r z)) (wy r (before.back r (goes.back r q)))
    (λ vs i. array_found (is_true (r.term z.defined)) (elements r z) (is_some (num r w) && b r) (λ ws. found (f us vs ws) (num r w)) (wz r (before.back r (goes.back r q)))
    (λ ws j. number_found (num r w) (b r) (f us vs ws) (λ v k. told r us vs ws v h i j k)))))
    ∙ sym (line r))
    (says_then old mid new b _ (λ r p. is_true (r.term x.defined) && (is_true (r.term y.defined) && (is_true (r.term z.defined) && (is_some (num r w) && p)))) body id m t goes s (λ r. refl))

-- of four arrays
pub four_arrays_row : (old mid new : Run) (g : Global) (args : Reading → Arguments) (f : List ℤ → List ℤ → List ℤ → List ℤ → Bool) (x y z w : Numbers) (b : Reading → Bool) (body id n m : ℕ)
    → ((r : Reading) → (line_of g).value (args r) ≡ Some (values.bool (found (λ us. found (λ vs. found (λ ws. found (f us vs ws) (numbers_in r w)) (numbers_in r z)) (numbers_in r y)) (numbers_in r x))))
    → ((r : Reading) (us vs ws zs : List ℤ) → AreElements r x us → AreElements r y vs → AreElements r z ws → AreElements r w zs → b r ≡ f us vs ws zs)
    → IsWhole old x
    → IsWhole old y
    → IsWhole old z
    → IsWhole old w
    → GoesOnBy n old mid
    → Tells old mid b body
    → GoesOnBy m mid new
    → Says mid new (λ r. is_true (r.term x.defined) && (is_true (r.term y.defined) && (is_true (r.term z.defined) && (is_true (r.term w.defined) && is_true (r.term body))))) id
    → IsRow base.Bool old new g args id
four_arrays_row old mid new g args f x y z w b body id n m line told wx wy wz ww before t goes s =
    row_by old new g args (λ r. is_true (r.term x.defined) && (is_true (r.term y.defined) && (is_true (r.term z.defined) && (is_true (r.term w.defined) && b r)))) id
    (λ r q. ap (λ p. Some (values.bool p)) (array_found (is_true (r.term x.defined)) (elements r x) (is_true (r.term y.defined) && (is_true (r.term z.defined) && (is_true (r.term w.defined) && b r))) (λ us. found (λ vs. found (λ ws. found (f us vs ws) (numbers_in r w)) (numbers_in r z)) (numbers_in r y)) (wx r (before.back r (goes.back r q)))
    (λ us h. array_found (is_true (r.term y.defined)) (elements r y) (is_true (r.term z.defined) && (is_true (r.term w.defined) && b r)) (λ vs. found (λ ws. found (f us vs ws) (numbers_in r w)) (numbers_in r z)) (wy r (before.back r (goes.back r q)))
    (λ vs i. array_found (is_true (r.term z.defined)) (elements r z) (is_true (r.term w.defined) && b r) (λ ws. found (f us vs ws) (numbers_in r w)) (wz r (before.back r (goes.back r q)))
    (λ ws j. array_found (is_true (r.term w.defined)) (elements r w) (b r) (f us vs ws) (ww r (before.back r (goes.back r q))) (λ zs k. told r us vs ws zs h i j k)))))
    ∙ sym (line r))
    (says_then old mid new b _ (λ r p. is_true (r.term x.defined) && (is_true (r.term y.defined) && (is_true (r.term z.defined) && (is_true (r.term w.defined) && p)))) body id m t goes s (λ r. refl))

-- of three arrays
pub three_arrays_row : (old mid new : Run) (g : Global) (args : Reading → Arguments) (f : List ℤ → List ℤ → List ℤ → Bool) (x y z : Numbers) (b : Reading → Bool) (body id n m : ℕ)
    → ((r : Reading) → (line_of g).value (args r) ≡ Some (values.bool (found (λ us. found (λ vs. found (f us vs) (numbers_in r z)) (numbers_in r y)) (numbers_in r x))))
    → ((r : Reading) (us vs ws : List ℤ) → AreElements r x us → AreElements r y vs → AreElements r z ws → b r ≡ f us vs ws)
    → IsWhole old x
    → IsWhole old y
    → IsWhole old z
    → GoesOnBy n old mid
    → Tells old mid b body
    → GoesOnBy m mid new
    → Says mid new (λ r. is_true (r.term x.defined) && (is_true (r.term y.defined) && (is_true (r.term z.defined) && is_true (r.term body)))) id
    → IsRow base.Bool old new g args id
three_arrays_row old mid new g args f x y z b body id n m line told wx wy wz before t goes s =
    row_by old new g args (λ r. is_true (r.term x.defined) && (is_true (r.term y.defined) && (is_true (r.term z.defined) && b r))) id
    (λ r q. ap (λ p. Some (values.bool p)) (array_found (is_true (r.term x.defined)) (elements r x) (is_true (r.term y.defined) && (is_true (r.term z.defined) && b r)) (λ us. found (λ vs. found (f us vs) (numbers_in r z)) (numbers_in r y)) (wx r (before.back r (goes.back r q)))
    (λ us h. array_found (is_true (r.term y.defined)) (elements r y) (is_true (r.term z.defined) && b r) (λ vs. found (f us vs) (numbers_in r z)) (wy r (before.back r (goes.back r q)))
    (λ vs i. array_found (is_true (r.term z.defined)) (elements r z) (b r) (f us vs) (wz r (before.back r (goes.back r q))) (λ ws j. told r us vs ws h i j))))
    ∙ sym (line r))
    (says_then old mid new b _ (λ r p. is_true (r.term x.defined) && (is_true (r.term y.defined) && (is_true (r.term z.defined) && p))) body id m t goes s (λ r. refl))

-- of an integer and two arrays
pub number_arrays_row : (old mid new : Run) (g : Global) (args : Reading → Arguments) (f : ℤ → List ℤ → List ℤ → Bool) (w : ℕ) (x y : Numbers) (b : Reading → Bool) (body id n m : ℕ)
    → ((r : Reading) → (line_of g).value (args r) ≡ Some (values.bool (found (λ v. found (λ us. found (f v us) (numbers_in r y)) (numbers_in r x)) (num r w))))
    → ((r : Reading) (v : ℤ) (us vs : List ℤ) → num r w ≡ Some v → AreElements r x us → AreElements r y vs → b r ≡ f v us vs)
    → IsWhole old x
    → IsWhole old y
    → GoesOnBy n old mid
    → Tells old mid b body
    → GoesOnBy m mid new
    → Says mid new (λ r. is_some (num r w) && (is_true (r.term x.defined) && (is_true (r.term y.defined) && is_true (r.term body)))) id
    → IsRow base.Bool old new g args id
number_arrays_row old mid new g args f w x y b body id n m line told wx wy before t goes s =
    row_by old new g args (λ r. is_some (num r w) && (is_true (r.term x.defined) && (is_true (r.term y.defined) && b r))) id
    (λ r q. ap (λ p. Some (values.bool p)) (number_found (num r w) (is_true (r.term x.defined) && (is_true (r.term y.defined) && b r)) (λ v. found (λ us. found (f v us) (numbers_in r y)) (numbers_in r x))
    (λ v k. array_found (is_true (r.term x.defined)) (elements r x) (is_true (r.term y.defined) && b r) (λ us. found (f v us) (numbers_in r y)) (wx r (before.back r (goes.back r q)))
    (λ us h. array_found (is_true (r.term y.defined)) (elements r y) (b r) (f v us) (wy r (before.back r (goes.back r q))) (λ vs i. told r v us vs k h i))))
    ∙ sym (line r))
    (says_then old mid new b _ (λ r p. is_some (num r w) && (is_true (r.term x.defined) && (is_true (r.term y.defined) && p))) body id m t goes s (λ r. refl))
