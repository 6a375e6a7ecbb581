-- `regular`: its cost, its line, and what its term tells.
use Rattle.std.proofs.Common.{◌≡◌, ◌∙◌, ℕ, zero, suc, ◌+◌, ◌*◌, ◌-◌, ◌<◌, ◌≤◌, ℤ, pos, negsuc, neg_ℤ, ◌+ℤ◌, ◌-ℤ◌, ◌*ℤ◌, int_le, int_lt, Bool, true, false, ◌&&◌, cond, List, [], ◌∷◌, length, map, drop, slice_get, slice_index_or, unwrap_or, Option, Some, None, IfSome, refl, sym, ap, subst, if◌then◌else◌, arith}
use Rattle.std.proofs.lemmas.Int.{ints}
use Rattle.std.specs.Int.{int_min, int_max}
use Rattle.std.specs.List.{list_all}
use Rattle.std.specs.Option.{option_map}
use Rattle.mz_value.specs.Ranges.{Range}
use Rattle.mz_value.specs.Contents.{Content}
use Rattle.mz_value.specs.Contents as values
use Rattle.mz_core.specs.declared.types.Base.TheVariants as base
use Rattle.mz_operations.specs.declared.row.Side.TheVariants.{Least, Greatest}
use Rattle.mz_operations.specs.Arguments.{Arguments, at, int_at, set_at}
use Rattle.mz_operations.specs.Sets.{contains}
use Rattle.mz_operations.specs.Views.{◌>>=◌}
use Rattle.mz_arena.specs.declared.node.Node.{Node}
use Rattle.mz_arena.specs.declared.node.NodeKind.TheVariants as kind
use Rattle.mz_arena.specs.Values.{Term, access_term, as_number, as_set, cons_term, element_at, extreme_term, is_true}
use Rattle.mz_arena.specs.Values as terms
use Rattle.mz_globals.specs.declared.global.Global.TheVariants as global
use Rattle.mz_globals.specs.Graphs.{is_up_to, next_state, nth}
use Rattle.mz_globals.specs.Graphs as graphs
use Rattle.mz_globals.specs.Reading.{Grid, grid_at, ints_at, length_of}
use Rattle.mz_globals.specs.Table.{line_of, truth}
use Rattle.mz_symbol.specs.Runs.{Run}
use Rattle.mz_symbol.specs.Readings.{Reading, IsNodeOf, state_of}
use Rattle.mz_symbol.specs.Symbols.{list_term}
use Rattle.mz_symbol.specs.Makes.{GoesOnBy}
use Rattle.mz_symbol_access.specs.StepsPlace.{list_of_two, sum_node, whole}
use Rattle.mz_symbol_access.proofs.ShiftLaws.{extreme_two, extreme_two_up}
use Rattle.glob_nodes.specs.declared.arguments.Numbers.{Numbers}
use Rattle.glob_nodes.specs.declared.nodes.Compare.TheVariants.{AtMost}
use Rattle.glob_nodes.specs.Arguments.{array_of, array_value, elements, numbers_in, IsWhole}
use Rattle.glob_nodes.specs.Rows.{IsRow, row_cost}
use Rattle.glob_nodes.specs.Says.{Gives, Says, Tells, compares, num}
use Rattle.glob_nodes.specs.StepsNodes.{meaning_over}
use Rattle.glob_nodes.proofs.Rows.{array_found, at_first, at_second, at_third, found, int_is, ints_are, row_by}
use Rattle.glob_nodes.proofs.Telling.{drop_all, drop_before, goes_more}
use Rattle.glob_nodes.specs.Numbers.{IsNumber, plus, product}
use Rattle.glob_nodes.specs.Sets.{set_value}
use Rattle.glob_nodes.proofs.Indexing.{within_seen}
use Rattle.glob_nodes.proofs.IntegerNodes.{sum_is}
use Rattle.glob_nodes.proofs.Seen.{head_there, tail_there}
use Rattle.glob_nodes.proofs.SetNodes.{set_is}
use Rattle.glob_nodes.proofs.Several.{at_fourth, same_three, same_four}
use Rattle.glob_graph.specs.declared.automata.Automaton.{Automaton}
use Rattle.glob_graph.specs.Tables.{table_value}
use Rattle.glob_graph.specs.Walks.{values_list}
use Rattle.glob_graph.specs.Automata.{machine, accepts, as_state, steps_of, row_of, step, after, first_state, is_letter, is_final, IsNear, IsPlace, IsNextState, IsLastState, IsStateSoFar, IsAccepted}
use Rattle.glob_graph.proofs.Rounds.{number_back, onto_list, same_length, term_number}
use Rattle.glob_graph.proofs.Rowwise.{grid, grid_is}

-- ---- the cost

product_grows : (n a b : ℕ) → a ≤ b → n * a ≤ n * b
product_grows n a b h = grind (arith, h)

opened : (n a : ℕ) → n * (1 + a) ≡ n + n * a
opened n a = grind arith

within_steps : (n c s l : ℕ) → c ≤ s * l → 56 * (n + n * c) + 50 + 6 ≤ 56 * (1 + n * (1 + s * l))
within_steps n c s l h =
    let same = opened n (s * l) in
    let most = product_grows n c (s * l) h in
    omega (arith, same, most)

pub regular_cost : (xs : List ℕ) (c s l : ℕ) → c ≤ s * l → 56 * (length xs + length xs * c) + 50 + 6 ≤ 56 * row_cost global.Regular (length xs ∷ s ∷ l ∷ 0 ∷ 0 ∷ 0 ∷ [])
unfolding line_of
regular_cost xs c s l h = within_steps (length xs) c s l h

square_of : (a b : ℕ) → suc a * suc b ≡ a * b + a + b + 1
square_of a b = grind arith

pub all_cost : (n c : ℕ) → 0 < n → 0 < c → 112 * n + 8 * c + 24 ≤ 56 * (n + n * c) + 50
all_cost zero c h k = absurd (omega (arith, h))
all_cost (suc a) zero h k = absurd (omega (arith, k))
all_cost (suc a) (suc b) h k = let same = square_of a b in omega (arith, same)

-- ---- places

first_of_both : (a b : Bool) → (a && b) ≡ true → a ≡ true
first_of_both true b h = refl
first_of_both false b h = absurd (cc)

second_of_both : (a b : Bool) → (a && b) ≡ true → b ≡ true
second_of_both true b h = h
second_of_both false b h = absurd (cc)

one_less : (k : ℕ) → pos k ≡ pos (suc k) -ℤ pos 1
one_less k = omega (arith, ints)

-- from 1, or from 0
from_zero : (xs : List ℤ) (i : ℤ) → element_at xs i ≡ nth (i -ℤ pos 1) xs
from_zero xs (pos zero) = refl
from_zero xs (pos (suc k)) = ap (λ j. nth j xs) (one_less k)
from_zero xs (negsuc k) = refl

get_map : (f : ℤ → ℤ) (k : ℕ) (xs : List ℤ) → slice_get (map f xs) k ≡ option_map f (slice_get xs k)
get_map f k [] = refl
get_map f zero (x ∷ xs) = refl
get_map f (suc k) (x ∷ xs) = get_map f k xs

nth_map : (f : ℤ → ℤ) (i : ℤ) (xs : List ℤ) → nth i (map f xs) ≡ option_map f (nth i xs)
nth_map f (pos k) xs = get_map f k xs
nth_map f (negsuc k) xs = refl

nth_none : (i : ℤ) → nth i [] ≡ None
nth_none (pos k) = refl
nth_none (negsuc k) = refl

moved_back : (p n : ℤ) → (p +ℤ n) -ℤ pos 1 ≡ p +ℤ (n -ℤ pos 1)
moved_back p n = omega (arith, ints)

step_is : (m : Automaton) (q n : ℤ) → step m.letters (steps_of m) q n ≡ option_map (as_state m.states) (nth ((q -ℤ pos 1) *ℤ m.letters +ℤ (n -ℤ pos 1)) m.steps.cells.items)
step_is m q n =
    from_zero (steps_of m) ((q -ℤ pos 1) *ℤ m.letters +ℤ n)
    ∙ ap (λ i. nth i (steps_of m)) (moved_back ((q -ℤ pos 1) *ℤ m.letters) n)
    ∙ nth_map (as_state m.states) ((q -ℤ pos 1) *ℤ m.letters +ℤ (n -ℤ pos 1)) m.steps.cells.items

element_none : (xs : List ℤ) (i : ℤ) → int_le (pos 1) i ≡ false → element_at xs i ≡ None
element_none xs (pos zero) h = refl
element_none xs (pos (suc k)) h = absurd (omega (arith, ints, h))
element_none xs (negsuc k) h = refl

row_before : (l : ℤ) → (pos 0 -ℤ pos 1) *ℤ l ≡ neg_ℤ l
row_before l = grind (arith, ints)

below_first : (p l n : ℤ) → p ≡ neg_ℤ l → int_le n l ≡ true → int_le (pos 1) (p +ℤ n) ≡ false
below_first p l n h k = by (int_le (pos 1) (p +ℤ n)) refl
  where
    by : (t : Bool) → int_le (pos 1) (p +ℤ n) ≡ t → t ≡ false
    by true e = absurd (omega (arith, ints, h, k, e))
    by false e = refl

-- no step leads on from 0
step_none : (m : Automaton) (n : ℤ) → is_up_to m.letters n ≡ true → step m.letters (steps_of m) (pos 0) n ≡ None
step_none m n h = element_none (steps_of m) ((pos 0 -ℤ pos 1) *ℤ m.letters +ℤ n) (below_first ((pos 0 -ℤ pos 1) *ℤ m.letters) m.letters n (row_before m.letters) (second_of_both (int_le (pos 1) n) (int_le n m.letters) h))

-- ---- what is told of letters

fails : (m : graphs.Automaton) (q : ℤ) (ns : List ℤ) → is_up_to m.states q ≡ false → graphs.accepts m q ns ≡ false
fails m q [] h = ap (λ b. b && contains m.final q) h
fails m q (n ∷ ns) h = ap (λ b. (b && is_up_to m.letters n) && graphs.accepts m (next_state m q n) ns) h

zero_fails : (m : graphs.Automaton) (ns : List ℤ) → graphs.accepts m (pos 0) ns ≡ false
zero_fails m ns = fails m (pos 0) ns refl

after_none : (letters : ℤ) (steps ns : List ℤ) → after letters steps None ns ≡ None
after_none letters steps [] = refl
after_none letters steps (n ∷ ns) = after_none letters steps ns

none_final : (m : Automaton) (f : Option (List Range)) (ns : List ℤ) (o : Option ℤ) → o ≡ None → is_final f (after m.letters (steps_of m) o ns) ≡ false
none_final m f ns o h = ap (λ q. is_final f (after m.letters (steps_of m) q ns)) h ∙ ap (is_final f) (after_none m.letters (steps_of m) ns)

abbrev ToldFrom : Automaton → List Range → List ℤ → Type 0
ToldFrom m f ns = (q : ℤ) → is_final (Some f) (after m.letters (steps_of m) (Some (as_state m.states q)) ns) ≡ graphs.accepts (machine m f) q ns

told_end : (m : Automaton) (f : List Range) → ToldFrom m f []
told_end m f q = by (is_up_to m.states q) refl
  where
    by : (t : Bool) → is_up_to m.states q ≡ t → is_final (Some f) (Some (as_state m.states q)) ≡ (is_up_to m.states q && contains f q)
    by true e = ap (λ b. is_final (Some f) (Some (if b then q else pos 0))) e ∙ ap (λ b. b && contains f q) (first_of_both (int_le (pos 1) q) (int_le q m.states) e ∙ sym e)
    by false e = ap (λ b. is_final (Some f) (Some (if b then q else pos 0))) e ∙ sym (ap (λ b. b && contains f q) e)

-- after a step of the table, or where it has none
told_next : (m : Automaton) (f : List Range) (ns : List ℤ) (o : Option ℤ) → ToldFrom m f ns → is_final (Some f) (after m.letters (steps_of m) (option_map (as_state m.states) o) ns) ≡ graphs.accepts (machine m f) (unwrap_or o (pos 0)) ns
told_next m f ns None go = none_final m (Some f) ns None refl ∙ sym (zero_fails (machine m f) ns)
told_next m f ns (Some c) go = go c

told_more : (m : Automaton) (f : List Range) (n : ℤ) (ns : List ℤ) → is_up_to m.letters n ≡ true → ToldFrom m f ns → ToldFrom m f (n ∷ ns)
told_more m f n ns h go q = by (is_up_to m.states q) refl
  where
    by : (t : Bool) → is_up_to m.states q ≡ t → is_final (Some f) (after m.letters (steps_of m) (step m.letters (steps_of m) (as_state m.states q) n) ns) ≡ ((is_up_to m.states q && is_up_to m.letters n) && graphs.accepts (machine m f) (next_state (machine m f) q n) ns)
    by true e =
        ap (λ b. is_final (Some f) (after m.letters (steps_of m) (step m.letters (steps_of m) (if b then q else pos 0) n) ns)) e
        ∙ ap (λ o. is_final (Some f) (after m.letters (steps_of m) o ns)) (step_is m q n)
        ∙ told_next m f ns (nth ((q -ℤ pos 1) *ℤ m.letters +ℤ (n -ℤ pos 1)) m.steps.cells.items) go
        ∙ sym (ap (λ b. (b && is_up_to m.letters n) && graphs.accepts (machine m f) (next_state (machine m f) q n) ns) e ∙ ap (λ b. b && graphs.accepts (machine m f) (next_state (machine m f) q n) ns) h)
    by false e =
        ap (λ b. is_final (Some f) (after m.letters (steps_of m) (step m.letters (steps_of m) (if b then q else pos 0) n) ns)) e
        ∙ none_final m (Some f) ns (step m.letters (steps_of m) (pos 0) n) (step_none m n h)
        ∙ sym (ap (λ b. (b && is_up_to m.letters n) && graphs.accepts (machine m f) (next_state (machine m f) q n) ns) e)

told : (m : Automaton) (f : List Range) (ns : List ℤ) → list_all (is_up_to m.letters) ns ≡ true → ToldFrom m f ns
told m f [] h = told_end m f
told m f (n ∷ ns) h = told_more m f n ns (first_of_both (is_up_to m.letters n) (list_all (is_up_to m.letters) ns) h) (told m f ns (second_of_both (is_up_to m.letters n) (list_all (is_up_to m.letters) ns) h))

not_both : (a b : Bool) → ((a && false) && b) ≡ false
not_both true b = refl
not_both false b = refl

none_after : (a b : Bool) → b ≡ false → (a && b) ≡ false
none_after true b h = h
none_after false b h = refl

-- a number that is no letter
told_no_letter : (m : graphs.Automaton) (q : ℤ) (ns : List ℤ) → list_all (is_up_to m.letters) ns ≡ false → graphs.accepts m q ns ≡ false
told_no_letter m q [] h = absurd (cc)
told_no_letter m q (n ∷ ns) h = by (is_up_to m.letters n) refl (told_no_letter m (next_state m q n) ns)
  where
    by : (t : Bool) → is_up_to m.letters n ≡ t → (list_all (is_up_to m.letters) ns ≡ false → graphs.accepts m (next_state m q n) ns ≡ false) → ((is_up_to m.states q && is_up_to m.letters n) && graphs.accepts m (next_state m q n) ns) ≡ false
    by true e go = none_after (is_up_to m.states q && is_up_to m.letters n) (graphs.accepts m (next_state m q n) ns) (go (sym (ap (λ b. b && list_all (is_up_to m.letters) ns) e) ∙ h))
    by false e go = ap (λ b. (is_up_to m.states q && b) && graphs.accepts m (next_state m q n) ns) e ∙ not_both (is_up_to m.states q) (graphs.accepts m (next_state m q n) ns)

no_set : (o : Option ℤ) → is_final None o ≡ false
no_set None = refl
no_set (Some n) = none_after (compares AtMost (Some (pos 1)) (Some n)) false refl

all_told : (m : Automaton) (f : Option (List Range)) (ns : List ℤ) (o : Option ℤ) → (list_all (is_up_to m.letters) ns ≡ true → o ≡ after m.letters (steps_of m) (first_state m) ns) → (list_all (is_up_to m.letters) ns && is_final f o) ≡ accepts m f ns
all_told m None ns o e = none_after (list_all (is_up_to m.letters) ns) (is_final None o) (no_set o)
all_told m (Some f) ns o e = by (list_all (is_up_to m.letters) ns) refl
  where
    by : (t : Bool) → list_all (is_up_to m.letters) ns ≡ t → (list_all (is_up_to m.letters) ns && is_final (Some f) o) ≡ graphs.accepts (machine m f) m.start ns
    by true h = ap (λ b. b && is_final (Some f) o) h ∙ ap (is_final (Some f)) (e h) ∙ told m f ns h m.start
    by false h = ap (λ b. b && is_final (Some f) o) h ∙ sym (told_no_letter (machine m f) m.start ns h)

start_told : (m : Automaton) (f : Option (List Range)) → is_final f (first_state m) ≡ accepts m f []
start_told m None = no_set (first_state m)
start_told m (Some f) = told_end m f m.start

-- without steps there is no state after a letter
no_step_told : (m : Automaton) (f : Option (List Range)) (n : ℤ) (ns : List ℤ) → m.steps.cells.items ≡ [] → accepts m f (n ∷ ns) ≡ false
no_step_told m None n ns h = refl
no_step_told m (Some f) n ns h =
    none_after (is_up_to m.states m.start && is_up_to m.letters n) (graphs.accepts (machine m f) (next_state (machine m f) m.start n) ns)
    (ap (λ cs. graphs.accepts (machine m f) (unwrap_or (nth ((m.start -ℤ pos 1) *ℤ m.letters +ℤ (n -ℤ pos 1)) cs) (pos 0)) ns) h
    ∙ ap (λ o. graphs.accepts (machine m f) (unwrap_or o (pos 0)) ns) (nth_none ((m.start -ℤ pos 1) *ℤ m.letters +ℤ (n -ℤ pos 1)))
    ∙ zero_fails (machine m f) ns)

-- ---- nodes over others

pub number_then : (old mid new : Run) (f : Reading → Option ℤ) (g : Reading → Option ℤ → Option ℤ) (acc id m : ℕ) → IsNumber old mid f acc → GoesOnBy m mid new → IsNumber mid new (λ r. g r (num r acc)) id → IsNumber old new (λ r. g r (f r)) id
number_then old mid new f g acc id m t goes s = record { same = λ r q. t.same r (goes.back r q) ∙ s.same r q; is = λ r q. s.is r q ∙ ap (g r) (t.is r (goes.back r q)) }

pub gives_then : (old mid new : Run) (f : Reading → Term) (g : Reading → Term → Term) (acc id m : ℕ) → Gives old mid f acc → GoesOnBy m mid new → Gives mid new (λ r. g r (r.term acc)) id → Gives old new (λ r. g r (f r)) id
gives_then old mid new f g acc id m t goes s = record { same = λ r q. t.same r (goes.back r q) ∙ s.same r q; is = λ r q. s.is r q ∙ ap (g r) (t.is r (goes.back r q)) }

pub tried_sum : (old new : Run) (a b : ℕ) (n : Node) (o : Option ℕ) → n ≡ sum_node a b → ((r : Reading) → state_of r old ≡ state_of r new) → IfSome o (IsNodeOf new n) → IfSome o (IsNumber old new (λ r. plus (num r a) (num r b)))
tried_sum old new a b n None e same h = tt
tried_sum old new a b n (Some id) e same h = sum_is old new a b id (record { same = λ r q. same r; is = λ r q. (subst (λ n. IsNodeOf new n id) e h) r q })

-- ---- letters that are brought near

min_kept : (i k : ℤ) → int_le i k ≡ true → int_min i k ≡ i
min_kept i k h = by (int_lt k i) refl
  where
    by : (t : Bool) → int_lt k i ≡ t → cond t k i ≡ i
    by true e = absurd (omega (arith, ints))
    by false e = refl

max_kept : (i k : ℤ) → int_le k i ≡ true → int_max i k ≡ i
max_kept i k h = by (int_lt k i) refl
  where
    by : (t : Bool) → int_lt k i ≡ t → cond t i k ≡ i
    by true e = refl
    by false e = omega (arith, ints)

two_listed : (t : ℕ → Term) (x y : ℕ) → list_term t (x ∷ y ∷ []) ≡ list_of_two (t x) (t y)
unfolding list_term
two_listed t x y = refl

least_kept : (r : Reading) (x y : ℕ) (n l : ℤ) → num r x ≡ Some n → num r y ≡ Some l → int_le n l ≡ true → extreme_term Least (list_term r.term (x ∷ y ∷ [])) ≡ whole n
least_kept r x y n l h k low =
    ap (extreme_term Least) (two_listed r.term x y)
    ∙ ap (λ t. extreme_term Least (list_of_two t (r.term y))) (term_number (r.term x) n h)
    ∙ ap (λ t. extreme_term Least (list_of_two (whole n) t)) (term_number (r.term y) l k)
    ∙ extreme_two n l
    ∙ ap whole (min_kept n l low)

greatest_kept : (r : Reading) (x y : ℕ) (n l : ℤ) → num r x ≡ Some n → num r y ≡ Some l → int_le l n ≡ true → extreme_term Greatest (list_term r.term (x ∷ y ∷ [])) ≡ whole n
greatest_kept r x y n l h k low =
    ap (extreme_term Greatest) (two_listed r.term x y)
    ∙ ap (λ t. extreme_term Greatest (list_of_two t (r.term y))) (term_number (r.term x) n h)
    ∙ ap (λ t. extreme_term Greatest (list_of_two (whole n) t)) (term_number (r.term y) l k)
    ∙ extreme_two_up n l
    ∙ ap whole (max_kept n l low)

pub near_is : (old m1 m2 m3 new : Run) (m : Automaton) (x last low one id n k j : ℕ)
    → IsNumber old m1 (λ r. Some m.letters) last
    → GoesOnBy n m1 m2
    → Gives m1 m2 (λ r. extreme_term Least (list_term r.term (x ∷ last ∷ []))) low
    → GoesOnBy k m2 m3
    → IsNumber m2 m3 (λ r. Some (pos 1)) one
    → GoesOnBy j m3 new
    → Gives m3 new (λ r. extreme_term Greatest (list_term r.term (low ∷ one ∷ []))) id
    → IsNear old new m x id
near_is old m1 m2 m3 new m x last low one id n k j a to2 b to3 c to d = record {
  same = λ r q. a.same r (to2.back r (to3.back r (to.back r q))) ∙ b.same r (to3.back r (to.back r q)) ∙ c.same r (to.back r q) ∙ d.same r q;
  is = λ r q i e h.
      let below = ap as_number (b.is r (to3.back r (to.back r q)) ∙ least_kept r x last i m.letters e (a.is r (to2.back r (to3.back r (to.back r q)))) (second_of_both (int_le (pos 1) i) (int_le i m.letters) h)) in
      ap as_number (d.is r q ∙ greatest_kept r low one i (pos 1) below (c.is r (to.back r q)) (first_of_both (int_le (pos 1) i) (int_le i m.letters) h));
}

-- ---- the place of a step

pub place_of_sum : (old new : Run) (m : Automaton) (row x id : ℕ) → IsNumber old new (λ r. plus (num r row) (num r x)) id → IsPlace old new m row x id
place_of_sum old new m row x id s = record { same = s.same; is = λ r q n e h. s.is r q ∙ ap (plus (num r row)) e }

pub place_of_near : (old mid new : Run) (m : Automaton) (row x near id k : ℕ) → IsNear old mid m x near → GoesOnBy k mid new → IsNumber mid new (λ r. plus (num r row) (num r near)) id → IsPlace old new m row x id
place_of_near old mid new m row x near id k t goes s = record {
  same = λ r q. t.same r (goes.back r q) ∙ s.same r q;
  is = λ r q n e h. s.is r q ∙ ap (plus (num r row)) (t.is r (goes.back r q) n e h);
}

pub place_later : (old mid new : Run) (m : Automaton) (row x id : ℕ) → ((r : Reading) → state_of r old ≡ state_of r mid) → IsPlace mid new m row x id → IsPlace old new m row x id
place_later old mid new m row x id same p = record { same = λ r q. same r ∙ p.same r q; is = p.is }

row_by_parts : (letters : ℤ) (o : Option ℤ) → product (plus o (Some (neg_ℤ (pos 1)))) (Some letters) ≡ row_of letters o
row_by_parts letters None = refl
row_by_parts letters (Some q) = refl

pub row_is : (old m1 m2 m3 new : Run) (m : Automaton) (q back rows letters id n k j : ℕ)
    → IsNumber old m1 (λ r. Some (neg_ℤ (pos 1))) back
    → GoesOnBy n m1 m2
    → IsNumber m1 m2 (λ r. plus (num r q) (num r back)) rows
    → GoesOnBy k m2 m3
    → IsNumber m2 m3 (λ r. Some m.letters) letters
    → GoesOnBy j m3 new
    → IsNumber m3 new (λ r. product (num r rows) (num r letters)) id
    → IsNumber old new (λ r. row_of m.letters (num r q)) id
row_is old m1 m2 m3 new m q back rows letters id n k j a to2 b to3 c to d = record {
  same = λ r h. a.same r (to2.back r (to3.back r (to.back r h))) ∙ b.same r (to3.back r (to.back r h)) ∙ c.same r (to.back r h) ∙ d.same r h;
  is = λ r h.
      d.is r h
      ∙ ap (product (num r rows)) (c.is r (to.back r h))
      ∙ ap (λ o. product o (Some m.letters)) (b.is r (to3.back r (to.back r h)) ∙ ap (plus (num r q)) (a.is r (to2.back r (to3.back r (to.back r h)))))
      ∙ row_by_parts m.letters (num r q);
}

-- ---- a step

element_empty : (i : ℤ) → element_at {A = ℤ} [] i ≡ None
element_empty (pos zero) = refl
element_empty (pos (suc k)) = refl
element_empty (negsuc k) = refl

accessed : (t : Term) (ns : List ℤ) → as_number (access_term t (values_list ns)) ≡ (as_number t >>= λ i. element_at ns i)
unfolding access_term
accessed t ns = by (as_number t) ns
  where
    by : (o : Option ℤ) (ns : List ℤ) → as_number (o >>= λ i. values_list ns >>= λ list. terms.value_at list i) ≡ (o >>= λ i. element_at ns i)
    by None ns = refl
    by (Some i) [] = sym (element_empty i)
    by (Some i) (n ∷ ns) = number_back (element_at (n ∷ ns) i)

stepped : (letters : ℤ) (steps : List ℤ) (o : Option ℤ) (n : ℤ) → (plus (row_of letters o) (Some n) >>= λ i. element_at steps i) ≡ (o >>= λ q. step letters steps q n)
stepped letters steps None n = refl
stepped letters steps (Some q) n = refl

pub next_is : (old m1 m2 new : Run) (m : Automaton) (list q x row place id k j : ℕ)
    → IsNumber old m1 (λ r. row_of m.letters (num r q)) row
    → GoesOnBy k m1 m2
    → IsPlace m1 m2 m row x place
    → GoesOnBy j m2 new
    → Gives m2 new (meaning_over kind.Access place list) id
    → IsNextState old new m list q x id
next_is old m1 m2 new m list q x row place id k j a to2 p to g = record {
  same = λ r h. a.same r (to2.back r (to.back r h)) ∙ p.same r (to.back r h) ∙ g.same r h;
  is = λ r h l n e i.
      ap as_number (g.is r h)
      ∙ ap (λ t. as_number (access_term (r.term place) t)) l
      ∙ accessed (r.term place) (steps_of m)
      ∙ ap (λ o. o >>= λ i. element_at (steps_of m) i) (p.is r (to.back r h) n e i)
      ∙ ap (λ o. plus o (Some n) >>= λ i. element_at (steps_of m) i) (a.is r (to2.back r (to.back r h)))
      ∙ stepped m.letters (steps_of m) (num r q) n;
}

-- ---- the states, one letter more

pub states_begin : (old new : Run) (m : Automaton) (list id : ℕ) (ids : List ℕ) → GoesOnBy 0 old new → IsNumber old new (λ r. first_state m) id → IsStateSoFar old new m list ids 0 id
states_begin old new m list id ids goes t = record {
  goes = goes;
  same = t.same;
  is = λ r q l ns e h. ap (λ o. after m.letters (steps_of m) o ns) (t.is r q);
  low = omega arith;
}

-- the letter at a place
record IsLetterAt (p : ℤ → Bool) (o : Option ℤ) (k : ℕ) (ns : List ℤ) : Type 0 where
  letter : ℤ
  there : o ≡ Some letter
  passes : p letter ≡ true
  rest : drop k ns ≡ letter ∷ drop (suc k) ns

letter_at : (see : ℕ → Option ℤ) (p : ℤ → Bool) (ids : List ℕ) (ns : List ℤ) (k : ℕ) → k < length ids → map see ids ≡ map (λ n. Some n) ns → list_all p ns ≡ true → IsLetterAt p (see (slice_index_or ids k 0)) k ns
letter_at see p [] ns k low e h = absurd (omega (arith, low))
letter_at see p (x ∷ xs) [] k low e h = absurd (cc)
letter_at see p (x ∷ xs) (n ∷ ns) zero low e h = record {
  letter = n;
  there = head_there (see x) (map see xs) n ns e;
  passes = first_of_both (p n) (list_all p ns) h;
  rest = refl;
}
letter_at see p (x ∷ xs) (n ∷ ns) (suc k) low e h =
    let more = letter_at see p xs ns k (omega (arith, low)) (tail_there (see x) (map see xs) n ns e) (second_of_both (p n) (list_all p ns) h) in
    record { letter = more.letter; there = more.there; passes = more.passes; rest = more.rest }

pub states_go : (old mid new : Run) (m : Automaton) (list q id k l : ℕ) (ids : List ℕ) → IsStateSoFar old mid m list ids k q → k < length ids → l ≡ suc k → GoesOnBy 88 mid new → IsNextState mid new m list q (slice_index_or ids k 0) id → IsStateSoFar old new m list ids l id
states_go old mid new m list q id k l ids s low next goes t = subst (λ n. IsStateSoFar old new m list ids n id) (sym next) (record {
  goes = goes_more (88 * k) 88 (88 * suc k) old mid new (omega arith) s.goes goes;
  same = λ r h. s.same r (goes.back r h) ∙ t.same r h;
  is = λ r h list_is ns e all.
      let here = letter_at (num r) (is_up_to m.letters) ids ns k low e all in
      ap (λ o. after m.letters (steps_of m) o (drop (suc k) ns)) (t.is r h list_is here.letter here.there here.passes)
      ∙ sym (ap (after m.letters (steps_of m) (num r q)) here.rest)
      ∙ s.is r (goes.back r h) list_is ns e all;
  low = omega (arith, low);
})

pub states_end : (old new : Run) (m : Automaton) (list id k : ℕ) (ids : List ℕ) → IsStateSoFar old new m list ids k id → length ids ≤ k → IsLastState old new m list ids id
states_end old new m list id k ids s high = record {
  same = s.same;
  is = λ r q l ns e h.
      let long = same_length r ids ns e in
      let end : k ≡ length ns = omega (arith, s.low, high, long) in
      sym (ap (after m.letters (steps_of m) (num r id)) (ap (λ n. drop n ns) end ∙ drop_all ns)) ∙ s.is r q l ns e h;
}

-- ---- the list of the steps

pub steps_begin : (m : Automaton) (cs : List ℤ) → Some terms.empty ≡ values_list (map (as_state m.states) (drop (length cs) cs))
steps_begin m cs = ap (λ ns. values_list (map (as_state m.states) ns)) (sym (drop_all cs))

pub steps_go : (m : Automaton) (c : ℤ) (cs : List ℤ) (k : ℕ) → k ≤ length cs → 0 < k → c ≡ slice_index_or cs (k - 1) (pos 0) → cons_term (Some (terms.number (as_state m.states c))) (values_list (map (as_state m.states) (drop k cs))) ≡ values_list (map (as_state m.states) (drop (k - 1) cs))
steps_go m c cs k low q e = onto_list (as_state m.states c) (map (as_state m.states) (drop k cs)) ∙ sym (ap (λ ns. values_list (map (as_state m.states) ns)) (drop_before (pos 0) c cs k low q e))

-- ---- what the nodes tell

letters_seen : (m : Automaton) (r : Reading) (ids : List ℕ) (ns : List ℤ) → map (num r) ids ≡ map (λ n. Some n) ns → list_all (λ x. is_letter m.letters (num r x)) ids ≡ list_all (is_up_to m.letters) ns
letters_seen m r ids ns e = within_seen r (pos 1, m.letters) ids ns e

pub accepted_all : (old m1 m2 m3 m4 new : Run) (m : Automaton) (ids : List ℕ) (letters list end last id n k j i : ℕ)
    → Tells old m1 (λ r. list_all (λ x. is_letter m.letters (num r x)) ids) letters
    → GoesOnBy n m1 m2
    → Gives m1 m2 (λ r. values_list (steps_of m)) list
    → GoesOnBy k m2 m3
    → IsLastState m2 m3 m list ids end
    → GoesOnBy j m3 m4
    → Says m3 m4 (λ r. is_final (as_set (r.term m.accepting)) (num r end)) last
    → GoesOnBy i m4 new
    → Says m4 new (λ r. is_true (r.term letters) && is_true (r.term last)) id
    → IsAccepted old new m ids id
accepted_all old m1 m2 m3 m4 new m ids letters list end last id n k j i a to2 b to3 c to4 d to s = record {
  same = λ r q.
      a.same r (to2.back r (to3.back r (to4.back r (to.back r q))))
      ∙ b.same r (to3.back r (to4.back r (to.back r q)))
      ∙ c.same r (to4.back r (to.back r q))
      ∙ d.same r (to.back r q)
      ∙ s.same r q;
  tells = λ r q ns e.
      s.tells r q
      ∙ ap (λ p. p && is_true (r.term last)) (a.tells r (to2.back r (to3.back r (to4.back r (to.back r q)))) ∙ letters_seen m r ids ns e)
      ∙ ap (λ p. list_all (is_up_to m.letters) ns && p) (d.tells r (to.back r q))
      ∙ all_told m (as_set (r.term m.accepting)) ns (num r end) (λ h. c.is r (to4.back r (to.back r q)) (b.is r (to3.back r (to4.back r (to.back r q)))) ns e h);
}

pub accepted_start : (old mid new : Run) (m : Automaton) (ids : List ℕ) (start id k : ℕ) → length ids ≡ 0 → IsNumber old mid (λ r. first_state m) start → GoesOnBy k mid new → Says mid new (λ r. is_final (as_set (r.term m.accepting)) (num r start)) id → IsAccepted old new m ids id
accepted_start old mid new m [] start id k none t goes s = record {
  same = λ r q. t.same r (goes.back r q) ∙ s.same r q;
  tells = λ r q ns e. s.tells r q ∙ ap (is_final (as_set (r.term m.accepting))) (t.is r (goes.back r q)) ∙ start_told m (as_set (r.term m.accepting)) ∙ ap (accepts m (as_set (r.term m.accepting))) (no_number ns e);
}
  where
    no_number : (ns : List ℤ) → ◌≡◌ {A = List (Option ℤ)} [] (map (λ n. Some n) ns) → [] ≡ ns
    no_number [] e = refl
    no_number (n ∷ ns) e = absurd (cc)
accepted_start old mid new m (x ∷ xs) start id k none t goes s = absurd (omega (arith, none))

no_cell : (cs : List ℤ) → length cs ≡ 0 → cs ≡ []
no_cell [] h = refl
no_cell (c ∷ cs) h = absurd (omega (arith, h))

pub accepted_none : (old new : Run) (m : Automaton) (ids : List ℕ) (id : ℕ) → 0 < length ids → length m.steps.cells.items ≡ 0 → Says old new (λ r. false) id → IsAccepted old new m ids id
accepted_none old new m [] id some none s = absurd (omega (arith, some))
accepted_none old new m (x ∷ xs) id some none s = record { same = s.same; tells = λ r q ns e. s.tells r q ∙ by (as_set (r.term m.accepting)) r ns e }
  where
    by : (f : Option (List Range)) (r : Reading) (ns : List ℤ) → map (num r) (x ∷ xs) ≡ map (λ n. Some n) ns → false ≡ accepts m f ns
    by f r [] e = absurd (cc)
    by f r (n ∷ ns) e = sym (no_step_told m f n ns (no_cell m.steps.cells.items none))

-- ---- the line

at_fifth : (a b c d e : Option Content) (rest : Arguments) → at (a ∷ b ∷ c ∷ d ∷ e ∷ rest) 4 ≡ e
unfolding at
at_fifth a b c d e rest = refl

at_sixth : (a b c d e f : Option Content) (rest : Arguments) → at (a ∷ b ∷ c ∷ d ∷ e ∷ f ∷ rest) 5 ≡ f
unfolding at
at_sixth a b c d e f rest = refl

abbrev pub arguments_of : Automaton → Range → Option (List ℤ) → Option (List Range) → Arguments
arguments_of m x o f = array_of x o ∷ Some (values.int m.states) ∷ Some (values.int m.letters) ∷ table_value m.steps ∷ Some (values.int m.start) ∷ option_map (values.set None) f ∷ []

abbrev automaton_of : Option ℤ → Option ℤ → Option Grid → Option (List Range) → Option graphs.Automaton
automaton_of q s d f = q >>= λ q. s >>= λ s. d >>= λ d. f >>= λ f. Some (record { states = q; letters = s; steps = d.cells; final = f })

automaton_found : (m : Automaton) (f : Option (List Range)) → automaton_of (Some m.states) (Some m.letters) (Some (grid (length_of m.steps.index) m.steps.cells.items)) f ≡ option_map (machine m) f
automaton_found m None = refl
automaton_found m (Some f) = refl

abbrev read_automaton : Arguments → Option graphs.Automaton
read_automaton args = automaton_of (int_at args 1) (int_at args 2) (grid_at args 3) (set_at args 5)

automaton_is : (m : Automaton) (x : Range) (o : Option (List ℤ)) (f : Option (List Range)) → read_automaton (arguments_of m x o f) ≡ option_map (machine m) f
automaton_is m x o f =
    same_four automaton_of
    (int_at (arguments_of m x o f) 1) (Some m.states)
    (int_at (arguments_of m x o f) 2) (Some m.letters)
    (grid_at (arguments_of m x o f) 3) (Some (grid (length_of m.steps.index) m.steps.cells.items))
    (set_at (arguments_of m x o f) 5) f
    (int_is (arguments_of m x o f) 1 (Some m.states) (at_second (array_of x o) (Some (values.int m.states)) _))
    (int_is (arguments_of m x o f) 2 (Some m.letters) (at_third (array_of x o) (Some (values.int m.states)) (Some (values.int m.letters)) _))
    (grid_is (arguments_of m x o f) 3 m.steps (at_fourth (array_of x o) (Some (values.int m.states)) (Some (values.int m.letters)) (table_value m.steps) _))
    (set_is (arguments_of m x o f) 5 f (at_sixth (array_of x o) (Some (values.int m.states)) (Some (values.int m.letters)) (table_value m.steps) (Some (values.int m.start)) (option_map (values.set None) f) []))
    ∙ automaton_found m f

abbrev accepts_of : Option (List ℤ) → Option graphs.Automaton → Option ℤ → Option Content
accepts_of o a q = truth (o >>= λ xs. a >>= λ m. q >>= λ q. Some (graphs.accepts m q xs))

accepts_found : (m : Automaton) (o : Option (List ℤ)) (f : Option (List Range)) → accepts_of o (option_map (machine m) f) (Some m.start) ≡ Some (values.bool (found (accepts m f) o))
accepts_found m None f = refl
accepts_found m (Some ns) None = refl
accepts_found m (Some ns) (Some f) = refl

regular_line : (m : Automaton) (x : Range) (o : Option (List ℤ)) (f : Option (List Range)) → (line_of global.Regular).value (arguments_of m x o f) ≡ Some (values.bool (found (accepts m f) o))
unfolding line_of
regular_line m x o f =
    same_three accepts_of (ints_at (arguments_of m x o f) 0) o (read_automaton (arguments_of m x o f)) (option_map (machine m) f) (int_at (arguments_of m x o f) 4) (Some m.start)
    (ints_are (arguments_of m x o f) 0 x o (at_first (array_of x o) _))
    (automaton_is m x o f)
    (int_is (arguments_of m x o f) 4 (Some m.start) (at_fifth (array_of x o) (Some (values.int m.states)) (Some (values.int m.letters)) (table_value m.steps) (Some (values.int m.start)) _))
    ∙ accepts_found m o f

pub regular_row : (old mid new : Run) (x : Numbers) (m : Automaton) (ids : List ℕ) (body id n k : ℕ)
    → ids ≡ x.items.items
    → IsWhole old x
    → GoesOnBy n old mid
    → IsAccepted old mid m ids body
    → GoesOnBy k mid new
    → Says mid new (λ r. is_true (r.term x.defined) && is_true (r.term body)) id
    → IsRow base.Bool old new global.Regular (λ r. array_value r x ∷ Some (values.int m.states) ∷ Some (values.int m.letters) ∷ table_value m.steps ∷ Some (values.int m.start) ∷ set_value r m.accepting ∷ []) id
regular_row old mid new x m ids body id n k same whole before t goes s =
    row_by old new global.Regular (λ r. arguments_of m (x.first, x.last) (numbers_in r x) (as_set (r.term m.accepting))) (λ r. is_true (r.term x.defined) && is_true (r.term body)) id
    (λ r q. ap (λ p. Some (values.bool p)) (array_found (is_true (r.term x.defined)) (elements r x) (is_true (r.term body)) (accepts m (as_set (r.term m.accepting))) (whole r (before.back r (goes.back r q))) (λ ns h. t.tells r (goes.back r q) ns (ap (map (num r)) same ∙ h))) ∙ sym (regular_line m (x.first, x.last) (numbers_in r x) (as_set (r.term m.accepting))))
    (record { same = λ r q. t.same r (goes.back r q) ∙ s.same r q; is = s.is; tells = s.tells })
