-- `sort`: its cost, its line, and what its term tells.
use Rattle.std.proofs.Common.{◌≡◌, ◌∙◌, ℕ, ◌+◌, ◌*◌, ◌≤◌, ℤ, pos, int_le, nat_eq, Bool, true, false, ◌&&◌, count_by, List, [], ◌∷◌, ◌++◌, length, map, Option, Some, refl, sym, ap, arith}
use Rattle.std.proofs.lemmas.Bool.Decides.{Decides-eqb, Decides-int_eq, same_from_decides}
use Rattle.std.specs.List.{list_all}
use Rattle.std.specs.Ordering.{int_eq}
use Rattle.mz_value.specs.Ranges.{Range}
use Rattle.mz_value.specs.Contents as values
use Rattle.mz_globals.specs.declared.global.Global.TheVariants as global
use Rattle.mz_globals.specs.Lists.{stepwise}
use Rattle.mz_globals.specs.Order as order
use Rattle.mz_globals.specs.Table.{line_of}
use Rattle.mz_symbol.specs.Readings.{Reading}
use Rattle.glob_nodes.specs.declared.nodes.Compare.TheVariants.{Equal, AtMost}
use Rattle.glob_nodes.specs.Says.{compares, num}
use Rattle.glob_nodes.specs.Arguments.{array_of}
use Rattle.glob_nodes.specs.Rows.{row_cost}
use Rattle.glob_nodes.proofs.Rows.{found, steps_there}
use Rattle.glob_nodes.proofs.Seen.{all_seen, both_same, count_seen}
use Rattle.glob_nodes.proofs.Squares.{below_square}
use Rattle.glob_order.specs.Senses.{times, is_as_often, are_as_often, sorted, sort_room}
use Rattle.glob_order.proofs.Lines.{two_arrays}

opened : (a b : ℕ) → 12 * b + ((14 * a + 14 * b + 6 + 6) * a + (14 * a + 14 * b + 6 + 6) * b + 6) + 6 + 12 ≡ 14 * ((0 + a + b) * (0 + a + b)) + 12 * (0 + a + b) + 12 * b + 24
opened a b = grind arith

of_lists : (b m : ℕ) → b ≤ m → 14 * (m * m) + 12 * m + 12 * b + 24 ≤ 56 * (1 + m * m)
of_lists b m h = let more = below_square m in omega (arith, h, more)

pub sort_cost : (xs ys : List ℕ) → sort_room (length xs) (length ys) + 12 ≤ 56 * row_cost global.Sort (length xs ∷ length ys ∷ [])
unfolding line_of
sort_cost xs ys =
    let same = opened (length xs) (length ys) in
    let most = of_lists (length ys) (0 + length xs + length ys) (omega arith) in
    omega (arith, same, most)

pub sort_line : (x y : Range) (o p : Option (List ℤ)) → (line_of global.Sort).value (array_of x o ∷ array_of y p ∷ []) ≡ Some (values.bool (found (λ v. found (order.sorts v) p) o))
unfolding line_of
sort_line x y o p = two_arrays order.sorts x y o p

times_told : (r : Reading) (v : ℕ) (w : ℤ) (ids : List ℕ) (ns : List ℤ) → num r v ≡ Some w → map (num r) ids ≡ map (λ n. Some n) ns → times r v ids ≡ order.times w ns
times_told r v w ids ns e h =
    ap (λ o. count_by (λ x. compares Equal o (num r x)) ids) e
    ∙ count_seen (num r) (λ x. compares Equal (Some w) (num r x)) (int_eq w) ids ns (λ x n i. ap (compares Equal (Some w)) i) h

unsigned_same : (a b : ℕ) → pos a ≡ pos b → a ≡ b
unsigned_same a b h = cc

same_number : (a b : ℕ) → int_eq (pos a) (pos b) ≡ nat_eq a b
same_number a b = same_from_decides {P = a ≡ b} (int_eq (pos a) (pos b)) (nat_eq a b) (λ h. unsigned_same a b ((Decides-int_eq (pos a) (pos b)).0 h), λ e. (Decides-int_eq (pos a) (pos b)).1 (ap pos e)) (Decides-eqb a b)

often_told : (r : Reading) (xs ys : List ℕ) (us vs : List ℤ) → map (num r) xs ≡ map (λ n. Some n) us → map (num r) ys ≡ map (λ n. Some n) vs → (v : ℕ) (w : ℤ) → num r v ≡ Some w → is_as_often r xs ys v ≡ order.is_as_often us vs w
often_told r xs ys us vs h k v w e =
    ap (λ n. int_eq (pos n) (pos (times r v ys))) (times_told r v w xs us e h)
    ∙ ap (λ n. int_eq (pos (order.times w us)) (pos n)) (times_told r v w ys vs e k)
    ∙ same_number (order.times w us) (order.times w vs)

and_assoc : (a b c : Bool) → (a && (b && c)) ≡ ((a && b) && c)
and_assoc true b c = refl
and_assoc false b c = refl

all_of_both : {A : Type 0} (p : A → Bool) (xs ys : List A) → (list_all p xs && list_all p ys) ≡ list_all p (xs ++ ys)
all_of_both p [] ys = refl
all_of_both p (x ∷ xs) ys = sym (and_assoc (p x) (list_all p xs) (list_all p ys)) ∙ ap (λ b. p x && b) (all_of_both p xs ys)

pub sorted_told : (r : Reading) (xs ys : List ℕ) (us vs : List ℤ) → map (num r) xs ≡ map (λ n. Some n) us → map (num r) ys ≡ map (λ n. Some n) vs → sorted r xs ys ≡ order.sorts us vs
sorted_told r xs ys us vs h k =
    both_same (stepwise (λ x y. compares AtMost (num r x) (num r y)) ys) (are_as_often r xs ys) (stepwise int_le vs) (list_all (order.is_as_often us vs) (us ++ vs))
    (steps_there (compares AtMost) int_le r ys vs (λ x y. refl) k)
    (both_same (list_all (λ v. is_as_often r xs ys v) xs) (list_all (λ v. is_as_often r xs ys v) ys) (list_all (order.is_as_often us vs) us) (list_all (order.is_as_often us vs) vs)
    (all_seen (num r) (λ v. is_as_often r xs ys v) (order.is_as_often us vs) xs us (often_told r xs ys us vs h k) h)
    (all_seen (num r) (λ v. is_as_often r xs ys v) (order.is_as_often us vs) ys vs (often_told r xs ys us vs h k) k)
    ∙ all_of_both (order.is_as_often us vs) us vs)
