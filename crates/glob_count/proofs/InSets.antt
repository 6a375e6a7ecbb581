-- `among`: its cost, its line, and what its term tells.
use Rattle.std.proofs.Common.{◌≡◌, ◌∙◌, ℕ, ◌+◌, ◌*◌, ◌≤◌, ℤ, pos, Bool, ◌&&◌, count_by, List, [], ◌∷◌, length, map, Option, Some, None, is_some, refl, sym, ap, arith}
use Rattle.std.specs.Option.{option_map}
use Rattle.std.specs.Ordering.{int_eq}
use Rattle.mz_value.specs.Ranges.{Range}
use Rattle.mz_value.specs.Contents.{Content}
use Rattle.mz_value.specs.Contents as values
use Rattle.mz_core.specs.declared.types.Base.TheVariants as base
use Rattle.mz_operations.specs.Views.{◌>>=◌}
use Rattle.mz_operations.specs.Arguments.{int_at, set_at}
use Rattle.mz_operations.specs.Sets.{contains}
use Rattle.mz_globals.specs.declared.global.Global.TheVariants as global
use Rattle.mz_globals.specs.Counting as counting
use Rattle.mz_globals.specs.Reading.{ints_at}
use Rattle.mz_globals.specs.Table.{line_of, truth}
use Rattle.mz_arena.specs.Values.{as_set, is_member, is_true}
use Rattle.mz_symbol.specs.Runs.{Run}
use Rattle.mz_symbol.specs.Readings.{Reading}
use Rattle.mz_symbol.specs.Makes.{GoesOnBy}
use Rattle.glob_nodes.specs.declared.arguments.Numbers.{Numbers}
use Rattle.glob_nodes.specs.declared.nodes.Compare.TheVariants.{Equal}
use Rattle.glob_nodes.specs.Says.{Says, compares, num}
use Rattle.glob_nodes.specs.Arguments.{array_of, array_value, number_value, elements, numbers_in, IsWhole}
use Rattle.glob_nodes.specs.Rows.{IsRow, row_cost}
use Rattle.glob_nodes.proofs.Rows.{found, ints_are, int_is, at_first, at_second, at_third, three_found, array_found, number_found, row_by}
use Rattle.glob_nodes.proofs.Telling.{says_then}
use Rattle.glob_nodes.specs.Sets.{set_value}
use Rattle.glob_nodes.proofs.Seen.{count_seen}
use Rattle.glob_nodes.proofs.SetNodes.{set_is, set_found}
use Rattle.glob_nodes.proofs.Several.{same_three}

pub among_cost : {A : Type 0} (xs : List A) → 14 * length xs + 6 + 30 ≤ 56 * row_cost global.Among (1 ∷ length xs ∷ 0 ∷ [])
unfolding line_of
among_cost xs = omega arith

abbrev pub among_in : ℤ → List ℤ → List Range → Bool
among_in n ns s = int_eq (pos (counting.times_among s ns)) n

abbrev among_of : Option ℤ → Option (List ℤ) → Option (List Range) → Option Content
among_of o p q = truth (o >>= λ n. p >>= λ ns. q >>= λ s. Some (among_in n ns s))

pub among_line : (y : Range) (o : Option ℤ) (p : Option (List ℤ)) (q : Option (List Range)) → (line_of global.Among).value (option_map values.int o ∷ array_of y p ∷ option_map (values.set None) q ∷ []) ≡ Some (values.bool (found (λ n. found (λ ns. found (among_in n ns) q) p) o))
unfolding line_of
among_line y o p q =
    same_three among_of (int_at (option_map values.int o ∷ array_of y p ∷ option_map (values.set None) q ∷ []) 0) o (ints_at (option_map values.int o ∷ array_of y p ∷ option_map (values.set None) q ∷ []) 1) p (set_at (option_map values.int o ∷ array_of y p ∷ option_map (values.set None) q ∷ []) 2) q
    (int_is (option_map values.int o ∷ array_of y p ∷ option_map (values.set None) q ∷ []) 0 o (at_first (option_map values.int o) (array_of y p ∷ option_map (values.set None) q ∷ [])))
    (ints_are (option_map values.int o ∷ array_of y p ∷ option_map (values.set None) q ∷ []) 1 y p (at_second (option_map values.int o) (array_of y p) (option_map (values.set None) q ∷ [])))
    (set_is (option_map values.int o ∷ array_of y p ∷ option_map (values.set None) q ∷ []) 2 q (at_third (option_map values.int o) (array_of y p) (option_map (values.set None) q) []))
    ∙ three_found among_in o p q

member_there : (x : Option ℤ) (n : ℤ) (o : Option (List Range)) (s : List Range) → x ≡ Some n → o ≡ Some s → is_member x o ≡ contains s n
member_there x n o s h k = ap (λ y. is_member y o) h ∙ ap (is_member (Some n)) k

among_told : (r : Reading) (n v : ℕ) (ids : List ℕ) (m : ℤ) (ns : List ℤ) (s : List Range) → num r n ≡ Some m → map (num r) ids ≡ map (λ n. Some n) ns → as_set (r.term v) ≡ Some s → compares Equal (Some (pos (count_by (λ x. is_member (num r x) (as_set (r.term v))) ids))) (num r n) ≡ among_in m ns s
among_told r n v ids m ns s e h k =
    ap (compares Equal (Some (pos (count_by (λ x. is_member (num r x) (as_set (r.term v))) ids)))) e
    ∙ ap (λ c. int_eq (pos c) m) (count_seen (num r) (λ x. is_member (num r x) (as_set (r.term v))) (contains s) ids ns (λ x w i. member_there (num r x) w (as_set (r.term v)) s i k) h)

pub among_row : (old mid new : Run) (n v : ℕ) (x : Numbers) (ids : List ℕ) (body id k m : ℕ)
    → ids ≡ x.items.items
    → IsWhole old x
    → GoesOnBy k old mid
    → Says old mid (λ r. compares Equal (Some (pos (count_by (λ x. is_member (num r x) (as_set (r.term v))) ids))) (num r n)) body
    → GoesOnBy m mid new
    → Says mid new (λ r. is_some (num r n) && (is_true (r.term x.defined) && (is_some (as_set (r.term v)) && is_true (r.term body)))) id
    → IsRow base.Bool old new global.Among (λ r. number_value r n ∷ array_value r x ∷ set_value r v ∷ []) id
among_row old mid new n v x ids body id k m same whole before t goes s =
    row_by old new global.Among (λ r. number_value r n ∷ array_value r x ∷ set_value r v ∷ []) (λ r. is_some (num r n) && (is_true (r.term x.defined) && (is_some (as_set (r.term v)) && compares Equal (Some (pos (count_by (λ x. is_member (num r x) (as_set (r.term v))) ids))) (num r n)))) id
    (λ r q. ap (λ p. Some (values.bool p)) (number_found (num r n) (is_true (r.term x.defined) && (is_some (as_set (r.term v)) && compares Equal (Some (pos (count_by (λ x. is_member (num r x) (as_set (r.term v))) ids))) (num r n))) (λ w. found (λ ns. found (among_in w ns) (as_set (r.term v))) (numbers_in r x))
    (λ w e. array_found (is_true (r.term x.defined)) (elements r x) (is_some (as_set (r.term v)) && compares Equal (Some (pos (count_by (λ x. is_member (num r x) (as_set (r.term v))) ids))) (num r n)) (λ ns. found (among_in w ns) (as_set (r.term v))) (whole r (before.back r (goes.back r q)))
    (λ ns h. set_found (as_set (r.term v)) (compares Equal (Some (pos (count_by (λ x. is_member (num r x) (as_set (r.term v))) ids))) (num r n)) (among_in w ns)
    (λ z i. among_told r n v ids w ns z e (ap (map (num r)) same ∙ h) i))))
    ∙ sym (among_line (x.first, x.last) (num r n) (numbers_in r x) (as_set (r.term v))))
    (says_then old mid new (λ r. compares Equal (Some (pos (count_by (λ x. is_member (num r x) (as_set (r.term v))) ids))) (num r n)) _ (λ r p. is_some (num r n) && (is_true (r.term x.defined) && (is_some (as_set (r.term v)) && p))) body id m (record { same = t.same; tells = t.tells }) goes s (λ r. refl))
