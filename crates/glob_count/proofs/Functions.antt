-- The function `count`.
use Rattle.std.proofs.Common.{◌≡◌, ◌∙◌, ℕ, ℤ, pos, Bool, true, false, ◌&&◌, List, [], ◌∷◌, count_by, map, Option, Some, None, is_some, IsSome, refl, sym, ap, if◌then◌else◌}
use Rattle.std.specs.Option.{option_map}
use Rattle.mz_value.specs.Ranges.{Range}
use Rattle.mz_value.specs.Contents.{Content}
use Rattle.mz_value.specs.Contents as values
use Rattle.mz_core.specs.declared.types.Base.TheVariants as base
use Rattle.mz_operations.specs.Views.{◌>>=◌}
use Rattle.mz_operations.specs.Arguments.{int_at}
use Rattle.mz_arena.specs.declared.node.NodeKind.TheVariants as kind
use Rattle.mz_arena.specs.Values.{bit, guard_term, is_true}
use Rattle.mz_globals.specs.declared.global.Global.TheVariants as global
use Rattle.mz_globals.specs.Order as order
use Rattle.mz_globals.specs.Table.{line_of}
use Rattle.mz_symbol.specs.Lines.{only_if}
use Rattle.mz_symbol.specs.Symbols.{value_by}
use Rattle.mz_symbol.specs.Runs.{Run}
use Rattle.mz_symbol.specs.Makes.{GoesOnBy}
use Rattle.glob_nodes.specs.declared.arguments.Numbers.{Numbers}
use Rattle.glob_nodes.specs.declared.nodes.Compare.TheVariants.{Equal}
use Rattle.glob_nodes.specs.Says.{Gives, Says, num, compares}
use Rattle.glob_nodes.specs.Arguments.{all_numbers, elements, numbers_in, array_of, array_value, number_value, IsWhole}
use Rattle.glob_nodes.specs.StepsNodes.{meaning_over}
use Rattle.glob_nodes.specs.Rows.{IsRow}
use Rattle.glob_nodes.proofs.Counting.{count_term}
use Rattle.glob_nodes.proofs.Rows.{ints_are, int_is, at_first, at_second}
use Rattle.glob_count.proofs.Meanings.{count_told}

-- a number where the arguments are defined
pub where_gives : (old m1 m2 new : Run) (y d count start there id n m : ℕ) → Says old m1 (λ r. true) start → GoesOnBy n m1 m2 → Says m1 m2 (λ r. is_some (num r y) && (is_true (r.term d) && is_true (r.term start))) there → GoesOnBy m m2 new → Gives m2 new (meaning_over kind.Guard there count) id → Gives old new (λ r. guard_term (bit (is_some (num r y) && (is_true (r.term d) && true))) (r.term count)) id
where_gives old m1 m2 new y d count start there id n m t g1 s g2 g = record {
  same = λ r q. t.same r (g1.back r (g2.back r q)) ∙ s.same r (g2.back r q) ∙ g.same r q;
  is = λ r q. g.is r q ∙ ap (λ t. guard_term t (r.term count)) (s.is r (g2.back r q) ∙ ap (λ b. bit (is_some (num r y) && (is_true (r.term d) && b))) (t.tells r (g1.back r (g2.back r q))));
}

guard_is : (b : Bool) (n : ℕ) → value_by base.Int (guard_term (bit b) (count_term n)) ≡ (if b then Some (values.int (pos n)) else None)
unfolding guard_term
guard_is true n = refl
guard_is false n = refl

more_are : (m : ℤ) (os : List (Option ℤ)) (ns : List ℤ) (q : Option (List ℤ)) → ((ms : List ℤ) → q ≡ Some ms → os ≡ map (λ n. Some n) ms) → option_map (λ ms. m ∷ ms) q ≡ Some ns → (Some m ∷ os) ≡ map (λ n. Some n) ns
more_are m os ns None go k = absurd (cc)
more_are m os ns (Some ms) go k =
    let same : (m ∷ ms) ≡ ns = cc in
    ap (λ xs. Some m ∷ xs) (go ms refl) ∙ ap (map (λ n. Some n)) same

all_are : (os : List (Option ℤ)) (ns : List ℤ) → all_numbers os ≡ Some ns → os ≡ map (λ n. Some n) ns
all_are [] [] h = refl
all_are [] (n ∷ ns) h = absurd (cc)
all_are (None ∷ os) ns h = absurd (cc)
all_are (Some m ∷ os) ns h = more_are m os ns (all_numbers os) (λ ms e. all_are os ms e) h

abbrev count_in : Option (List ℤ) → Option ℤ → Option Content
count_in o p = o >>= λ ns. p >>= λ w. Some (values.int (pos (order.times w ns)))

none_after : (q : Option (List ℤ)) → count_in q None ≡ None
none_after None = refl
none_after (Some ns) = refl

some_after : (os : List (Option ℤ)) (w : ℤ) (n : ℕ) (q : Option (List ℤ)) → all_numbers os ≡ q → IsSome q → ((ns : List ℤ) → os ≡ map (λ n. Some n) ns → n ≡ order.times w ns) → Some (values.int (pos n)) ≡ count_in q (Some w)
some_after os w n None k j e = absurd (cc)
some_after os w n (Some ns) k j e = ap (λ m. Some (values.int (pos m))) (e ns (all_are os ns k))

counted_value : (d : Bool) (os : List (Option ℤ)) (o : Option ℤ) (n : ℕ) → (d ≡ true → IsSome (all_numbers os)) → ((ns : List ℤ) (w : ℤ) → os ≡ map (λ n. Some n) ns → o ≡ Some w → n ≡ order.times w ns) → (if (is_some o && (d && true)) then Some (values.int (pos n)) else None) ≡ count_in (only_if d (all_numbers os)) o
counted_value d os None n s e = sym (none_after (only_if d (all_numbers os)))
counted_value false os (Some w) n s e = refl
counted_value true os (Some w) n s e = some_after os w n (all_numbers os) refl (s refl) (λ ns h. e ns w h refl)

count_of_line : (x : Range) (o : Option (List ℤ)) (p : Option ℤ) → (line_of global.CountOf).value (array_of x o ∷ option_map values.int p ∷ []) ≡ count_in o p
unfolding line_of
count_of_line x o p =
    ap (λ q. q >>= λ ns. int_at (array_of x o ∷ option_map values.int p ∷ []) 1 >>= λ w. Some (values.int (pos (order.times w ns)))) (ints_are (array_of x o ∷ option_map values.int p ∷ []) 0 x o (at_first (array_of x o) (option_map values.int p ∷ [])))
    ∙ ap (count_in o) (int_is (array_of x o ∷ option_map values.int p ∷ []) 1 p (at_second (array_of x o) (option_map values.int p) []))

pub count_of_row : (old mid new : Run) (x : Numbers) (ids : List ℕ) (y count id n m : ℕ) → ids ≡ x.items.items → IsWhole old x → GoesOnBy n old mid → Gives old mid (λ r. count_term (count_by (λ v. compares Equal (num r y) (num r v)) ids)) count → GoesOnBy m mid new → Gives mid new (λ r. guard_term (bit (is_some (num r y) && (is_true (r.term x.defined) && true))) (r.term count)) id → IsRow base.Int old new global.CountOf (λ r. array_value r x ∷ number_value r y ∷ []) id
count_of_row old mid new x ids y count id n m i whole before t goes g = record {
  same = λ r q. t.same r (goes.back r q) ∙ g.same r q;
  value = λ r q.
      ap (value_by base.Int) (g.is r q ∙ ap (guard_term (bit (is_some (num r y) && (is_true (r.term x.defined) && true)))) (t.is r (goes.back r q)))
      ∙ guard_is (is_some (num r y) && (is_true (r.term x.defined) && true)) (count_by (λ v. compares Equal (num r y) (num r v)) ids)
      ∙ counted_value (is_true (r.term x.defined)) (elements r x) (num r y) (count_by (λ v. compares Equal (num r y) (num r v)) ids) (whole r (before.back r (goes.back r q))) (λ ns w h e. count_told r y ids w ns e (ap (map (num r)) i ∙ h))
      ∙ sym (count_of_line (x.first, x.last) (numbers_in r x) (num r y));
}
