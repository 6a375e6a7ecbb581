-- From what a row's term tells to the row's line.
use Rattle.std.proofs.Common.{◌≡◌, ◌∙◌, ℕ, ℤ, Bool, true, false, ◌&&◌, List, [], ◌∷◌, map, Option, Some, None, is_some, IsSome, refl, sym, ap}
use Rattle.std.specs.Option.{option_map, option_and_then}
use Rattle.mz_value.specs.Ranges.{Range}
use Rattle.mz_value.specs.Contents.{Content, contents}
use Rattle.mz_value.specs.Contents as values
use Rattle.mz_core.specs.declared.types.Base.TheVariants as base
use Rattle.mz_operations.specs.Views.{◌>>=◌, as_int, as_row, items_in}
use Rattle.mz_operations.specs.Arguments.{Arguments, at, int_at, row_at}
use Rattle.mz_globals.specs.declared.global.Global.{Global}
use Rattle.mz_globals.specs.Lists.{pairwise, stepwise, stepwise_from}
use Rattle.mz_globals.specs.Reading.{each, ints_at}
use Rattle.mz_globals.specs.Table.{line_of, truth}
use Rattle.std.specs.List.{list_all, list_any}
use Rattle.mz_arena.specs.Values.{bit, is_true}
use Rattle.mz_symbol.specs.Lines.{only_if}
use Rattle.mz_symbol.specs.Symbols.{value_by}
use Rattle.mz_symbol.specs.Runs.{Run}
use Rattle.mz_symbol.specs.Readings.{Reading, Reads}
use Rattle.mz_symbol.specs.Makes.{GoesOnBy}
use Rattle.mz_symbol_rows.proofs.RowLaws.{truth_by}
use Rattle.glob_nodes.specs.declared.arguments.Numbers.{Numbers}
use Rattle.glob_nodes.specs.Says.{Says, Tells, num}
use Rattle.glob_nodes.specs.Arguments.{all_numbers, elements, numbers_in, array_of, array_value, number_value, IsWhole}
use Rattle.glob_nodes.specs.Rows.{IsRow}
use Rattle.glob_nodes.proofs.Telling.{says_then}

-- ---- arguments

elements_read : (ns : List ℤ) → each as_int (items_in (contents (map values.int ns))) ≡ Some ns
unfolding as_int
elements_read [] = refl
elements_read (n ∷ ns) = ap (λ q. q >>= λ ys. Some (n ∷ ys)) (elements_read ns)

ints_of : (x : Range) (o : Option (List ℤ)) → (option_and_then as_row (array_of x o) >>= each as_int) ≡ o
unfolding as_row
ints_of x None = refl
ints_of x (Some ns) = elements_read ns

-- the array at a place
pub ints_are : (args : Arguments) (k : ℕ) (x : Range) (o : Option (List ℤ)) → at args k ≡ array_of x o → ints_at args k ≡ o
unfolding row_at
ints_are args k x o h = ap (λ v. option_and_then as_row v >>= each as_int) h ∙ ints_of x o

int_of : (o : Option ℤ) → option_and_then as_int (option_map values.int o) ≡ o
unfolding as_int
int_of None = refl
int_of (Some n) = refl

-- the integer at a place
pub int_is : (args : Arguments) (k : ℕ) (o : Option ℤ) → at args k ≡ option_map values.int o → int_at args k ≡ o
unfolding int_at
int_is args k o h = ap (option_and_then as_int) h ∙ int_of o

pub at_first : (a : Option Content) (rest : Arguments) → at (a ∷ rest) 0 ≡ a
unfolding at
at_first a rest = refl

pub at_second : (a b : Option Content) (rest : Arguments) → at (a ∷ b ∷ rest) 1 ≡ b
unfolding at
at_second a b rest = refl

pub at_third : (a b d : Option Content) (rest : Arguments) → at (a ∷ b ∷ d ∷ rest) 2 ≡ d
unfolding at
at_third a b d rest = refl

-- ---- what is found of arguments that are there

abbrev pub found : {A : Type 0} → (A → Bool) → Option A → Bool
found f None = false
found f (Some x) = f x

pub one_found : {A : Type 0} (f : A → Bool) (o : Option A) → truth (o >>= λ x. Some (f x)) ≡ Some (values.bool (found f o))
one_found f None = refl
one_found f (Some x) = refl

pub two_found : {A B : Type 0} (f : A → B → Bool) (o : Option A) (p : Option B) → truth (o >>= λ x. p >>= λ y. Some (f x y)) ≡ Some (values.bool (found (λ x. found (f x) p) o))
two_found f None p = refl
two_found f (Some x) None = refl
two_found f (Some x) (Some y) = refl

pub three_found : {A B C : Type 0} (f : A → B → C → Bool) (o : Option A) (p : Option B) (q : Option C) → truth (o >>= λ x. p >>= λ y. q >>= λ z. Some (f x y z)) ≡ Some (values.bool (found (λ x. found (λ y. found (f x y) q) p) o))
three_found f None p q = refl
three_found f (Some x) None q = refl
three_found f (Some x) (Some y) None = refl
three_found f (Some x) (Some y) (Some z) = refl

more_are : (m : ℤ) (os : List (Option ℤ)) (ns : List ℤ) (q : Option (List ℤ)) → ((ms : List ℤ) → q ≡ Some ms → os ≡ map (λ n. Some n) ms) → option_map (λ ms. m ∷ ms) q ≡ Some ns → (Some m ∷ os) ≡ map (λ n. Some n) ns
more_are m os ns None go k = absurd (cc)
more_are m os ns (Some ms) go k =
    let same : (m ∷ ms) ≡ ns = cc in
    ap (λ xs. Some m ∷ xs) (go ms refl) ∙ ap (map (λ n. Some n)) same

all_are : (os : List (Option ℤ)) (ns : List ℤ) → all_numbers os ≡ Some ns → os ≡ map (λ n. Some n) ns
all_are [] [] h = refl
all_are [] (n ∷ ns) h = absurd (cc)
all_are (None ∷ os) ns h = absurd (cc)
all_are (Some m ∷ os) ns h = more_are m os ns (all_numbers os) (λ ms e. all_are os ms e) h

-- an array's definedness and what is told of its elements
pub array_found : (d : Bool) (os : List (Option ℤ)) (b : Bool) (f : List ℤ → Bool) → (d ≡ true → IsSome (all_numbers os)) → ((ns : List ℤ) → os ≡ map (λ n. Some n) ns → b ≡ f ns) → (d && b) ≡ found f (only_if d (all_numbers os))
array_found false os b f h e = refl
array_found true os b f h e = by (all_numbers os) refl (h refl)
  where
    by : (q : Option (List ℤ)) → all_numbers os ≡ q → IsSome q → b ≡ found f q
    by None k j = absurd (cc)
    by (Some ns) k j = e ns (all_are os ns k)

-- the same of an integer
pub number_found : (o : Option ℤ) (b : Bool) (f : ℤ → Bool) → ((n : ℤ) → o ≡ Some n → b ≡ f n) → (is_some o && b) ≡ found f o
number_found None b f e = refl
number_found (Some n) b f e = e n refl

-- ---- rows

pub row_by : (old new : Run) (g : Global) (args : Reading → Arguments) (f : Reading → Bool) (id : ℕ) → ((r : Reading) → Reads r new → Some (values.bool (f r)) ≡ (line_of g).value (args r)) → Says old new f id → IsRow base.Bool old new g args id
row_by old new g args f id e s = record {
  same = s.same;
  value = λ r q. ap (value_by base.Bool) (s.is r q) ∙ truth_by (f r) ∙ e r q;
}

-- of one array
pub array_row : (old mid new : Run) (g : Global) (f : List ℤ → Bool) (a : Numbers) (b : Reading → Bool) (body id n m : ℕ)
    → ((o : Option (List ℤ)) → (line_of g).value (array_of (a.first, a.last) o ∷ []) ≡ Some (values.bool (found f o)))
    → ((r : Reading) (ns : List ℤ) → elements r a ≡ map (λ n. Some n) ns → b r ≡ f ns)
    → IsWhole old a
    → GoesOnBy n old mid
    → Tells old mid b body
    → GoesOnBy m mid new
    → Says mid new (λ r. is_true (r.term a.defined) && is_true (r.term body)) id
    → IsRow base.Bool old new g (λ r. array_value r a ∷ []) id
array_row old mid new g f a b body id n m line told whole before t goes s =
    row_by old new g (λ r. array_value r a ∷ []) (λ r. is_true (r.term a.defined) && b r) id
    (λ r q. ap (λ p. Some (values.bool p)) (array_found (is_true (r.term a.defined)) (elements r a) (b r) f (whole r (before.back r (goes.back r q))) (told r)) ∙ sym (line (numbers_in r a)))
    (says_then old mid new b _ (λ r p. is_true (r.term a.defined) && p) body id m t goes s (λ r. refl))

-- of two arrays
pub arrays_row : (old mid new : Run) (g : Global) (args : Reading → Arguments) (f : List ℤ → List ℤ → Bool) (x y : Numbers) (b : Reading → Bool) (body id n m : ℕ)
    → ((r : Reading) → (line_of g).value (args r) ≡ Some (values.bool (found (λ v. found (f v) (numbers_in r y)) (numbers_in r x))))
    → ((r : Reading) (ns ms : List ℤ) → elements r x ≡ map (λ n. Some n) ns → elements r y ≡ map (λ n. Some n) ms → b r ≡ f ns ms)
    → IsWhole old x
    → IsWhole old y
    → GoesOnBy n old mid
    → Tells old mid b body
    → GoesOnBy m mid new
    → Says mid new (λ r. is_true (r.term x.defined) && (is_true (r.term y.defined) && is_true (r.term body))) id
    → IsRow base.Bool old new g args id
arrays_row old mid new g args f x y b body id n m line told wx wy before t goes s =
    row_by old new g args (λ r. is_true (r.term x.defined) && (is_true (r.term y.defined) && b r)) id
    (λ r q. ap (λ p. Some (values.bool p)) (array_found (is_true (r.term x.defined)) (elements r x) (is_true (r.term y.defined) && b r) (λ v. found (f v) (numbers_in r y)) (wx r (before.back r (goes.back r q)))
    (λ ns h. array_found (is_true (r.term y.defined)) (elements r y) (b r) (f ns) (wy r (before.back r (goes.back r q))) (λ ms k. told r ns ms h k)))
    ∙ sym (line r))
    (says_then old mid new b _ (λ r p. is_true (r.term x.defined) && (is_true (r.term y.defined) && p)) body id m t goes s (λ r. refl))

-- of an integer and an array
pub number_array_row : (old mid new : Run) (g : Global) (args : Reading → Arguments) (f : ℤ → List ℤ → Bool) (x : ℕ) (y : Numbers) (b : Reading → Bool) (body id n m : ℕ)
    → ((r : Reading) → (line_of g).value (args r) ≡ Some (values.bool (found (λ v. found (f v) (numbers_in r y)) (num r x))))
    → ((r : Reading) (v : ℤ) (ns : List ℤ) → num r x ≡ Some v → elements r y ≡ map (λ n. Some n) ns → b r ≡ f v ns)
    → IsWhole old y
    → GoesOnBy n old mid
    → Tells old mid b body
    → GoesOnBy m mid new
    → Says mid new (λ r. is_some (num r x) && (is_true (r.term y.defined) && is_true (r.term body))) id
    → IsRow base.Bool old new g args id
number_array_row old mid new g args f x y b body id n m line told wy before t goes s =
    row_by old new g args (λ r. is_some (num r x) && (is_true (r.term y.defined) && b r)) id
    (λ r q. ap (λ p. Some (values.bool p)) (number_found (num r x) (is_true (r.term y.defined) && b r) (λ v. found (f v) (numbers_in r y))
    (λ v h. array_found (is_true (r.term y.defined)) (elements r y) (b r) (f v) (wy r (before.back r (goes.back r q))) (λ ns k. told r v ns h k)))
    ∙ sym (line r))
    (says_then old mid new b _ (λ r p. is_some (num r x) && (is_true (r.term y.defined) && p)) body id m t goes s (λ r. refl))

-- of two integers and an array
pub numbers_array_row : (old mid new : Run) (g : Global) (args : Reading → Arguments) (f : ℤ → ℤ → List ℤ → Bool) (x y : ℕ) (z : Numbers) (b : Reading → Bool) (body id n m : ℕ)
    → ((r : Reading) → (line_of g).value (args r) ≡ Some (values.bool (found (λ v. found (λ w. found (f v w) (numbers_in r z)) (num r y)) (num r x))))
    → ((r : Reading) (v w : ℤ) (ns : List ℤ) → num r x ≡ Some v → num r y ≡ Some w → elements r z ≡ map (λ n. Some n) ns → b r ≡ f v w ns)
    → IsWhole old z
    → GoesOnBy n old mid
    → Tells old mid b body
    → GoesOnBy m mid new
    → Says mid new (λ r. is_some (num r x) && (is_some (num r y) && (is_true (r.term z.defined) && is_true (r.term body)))) id
    → IsRow base.Bool old new g args id
numbers_array_row old mid new g args f x y z b body id n m line told wz before t goes s =
    row_by old new g args (λ r. is_some (num r x) && (is_some (num r y) && (is_true (r.term z.defined) && b r))) id
    (λ r q. ap (λ p. Some (values.bool p)) (number_found (num r x) (is_some (num r y) && (is_true (r.term z.defined) && b r)) (λ v. found (λ w. found (f v w) (numbers_in r z)) (num r y))
    (λ v h. number_found (num r y) (is_true (r.term z.defined) && b r) (λ w. found (f v w) (numbers_in r z))
    (λ w k. array_found (is_true (r.term z.defined)) (elements r z) (b r) (f v w) (wz r (before.back r (goes.back r q))) (λ ns l. told r v w ns h k l))))
    ∙ sym (line r))
    (says_then old mid new b _ (λ r p. is_some (num r x) && (is_some (num r y) && (is_true (r.term z.defined) && p))) body id m t goes s (λ r. refl))

-- ---- arguments that are found in another order

pub found_swap : {A B : Type 0} (f : A → B → Bool) (o : Option A) (p : Option B) → found (λ x. found (f x) p) o ≡ found (λ y. found (λ x. f x y) o) p
found_swap f None None = refl
found_swap f None (Some y) = refl
found_swap f (Some x) None = refl
found_swap f (Some x) (Some y) = refl

-- ---- values that are there

pub all_map : {A B : Type 0} (p : B → Bool) (g : A → B) (xs : List A) → list_all (λ x. p (g x)) xs ≡ list_all p (map g xs)
all_map p g [] = refl
all_map p g (x ∷ xs) = ap (λ b. p (g x) && b) (all_map p g xs)

pub pairs_map : {A B : Type 0} (p : B → B → Bool) (g : A → B) (xs : List A) → pairwise (λ x y. p (g x) (g y)) xs ≡ pairwise p (map g xs)
pairs_map p g [] = refl
pairs_map p g (x ∷ xs) = ap (λ b. b && pairwise (λ x y. p (g x) (g y)) xs) (all_map (p (g x)) g xs) ∙ ap (λ b. list_all (p (g x)) (map g xs) && b) (pairs_map p g xs)

steps_from_map : {A B : Type 0} (p : B → B → Bool) (g : A → B) (x : A) (xs : List A) → stepwise_from (λ x y. p (g x) (g y)) x xs ≡ stepwise_from p (g x) (map g xs)
steps_from_map p g x [] = refl
steps_from_map p g x (y ∷ ys) = ap (λ b. p (g x) (g y) && b) (steps_from_map p g y ys)

pub steps_map : {A B : Type 0} (p : B → B → Bool) (g : A → B) (xs : List A) → stepwise (λ x y. p (g x) (g y)) xs ≡ stepwise p (map g xs)
steps_map p g [] = refl
steps_map p g (x ∷ xs) = steps_from_map p g x xs

-- what is told of each two nodes, of numbers
pub pairs_there : (p : Option ℤ → Option ℤ → Bool) (q : ℤ → ℤ → Bool) (r : Reading) (ids : List ℕ) (ns : List ℤ) → ((x y : ℤ) → p (Some x) (Some y) ≡ q x y) → map (num r) ids ≡ map (λ n. Some n) ns → pairwise (λ x y. p (num r x) (num r y)) ids ≡ pairwise q ns
pairs_there p q r ids ns e h = pairs_map p (num r) ids ∙ ap (pairwise p) h ∙ sym (pairs_map p (λ n. Some n) ns) ∙ same ns
  where
    all_same : (x : ℤ) (ys : List ℤ) → list_all (λ y. p (Some x) (Some y)) ys ≡ list_all (q x) ys
    all_same x [] = refl
    all_same x (y ∷ ys) = ap (λ b. b && list_all (λ y. p (Some x) (Some y)) ys) (e x y) ∙ ap (λ b. q x y && b) (all_same x ys)

    same : (ns : List ℤ) → pairwise (λ x y. p (Some x) (Some y)) ns ≡ pairwise q ns
    same [] = refl
    same (x ∷ xs) = ap (λ b. b && pairwise (λ x y. p (Some x) (Some y)) xs) (all_same x xs) ∙ ap (λ b. list_all (q x) xs && b) (same xs)

-- of each and the next
pub steps_there : (p : Option ℤ → Option ℤ → Bool) (q : ℤ → ℤ → Bool) (r : Reading) (ids : List ℕ) (ns : List ℤ) → ((x y : ℤ) → p (Some x) (Some y) ≡ q x y) → map (num r) ids ≡ map (λ n. Some n) ns → stepwise (λ x y. p (num r x) (num r y)) ids ≡ stepwise q ns
steps_there p q r ids ns e h = steps_map p (num r) ids ∙ ap (stepwise p) h ∙ sym (steps_map p (λ n. Some n) ns) ∙ same ns
  where
    from : (x : ℤ) (ys : List ℤ) → stepwise_from (λ x y. p (Some x) (Some y)) x ys ≡ stepwise_from q x ys
    from x [] = refl
    from x (y ∷ ys) = ap (λ b. b && stepwise_from (λ x y. p (Some x) (Some y)) y ys) (e x y) ∙ ap (λ b. q x y && b) (from y ys)

    same : (ns : List ℤ) → stepwise (λ x y. p (Some x) (Some y)) ns ≡ stepwise q ns
    same [] = refl
    same (x ∷ xs) = from x xs
