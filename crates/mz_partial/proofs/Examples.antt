-- Worked examples: nodes that may have no value, beside the Booleans and the total nodes that split them.
use Rattle.std.specs.Prelude.{refl, ℕ, pos, List, [], ◌∷◌, true, false}
use Rattle.mz_operations.specs.Numbers.{computed, toward}
use Rattle.mz_arena.specs.declared.node.NodeKind.{NodeKind}
use Rattle.mz_arena.specs.declared.node.NodeKind.TheVariants.{Int, Bool as BoolNode, Var, Div, Mod, Min, Max, Eq, Ne, Le, And, If, Access, Guard, Nil, Cons, SetConst}
use Rattle.mz_arena.specs.Entries.{Entry, entry, folded}
use Rattle.mz_arena.specs.Values.{number, Values, arith_term, extreme_term, comparison_term, and_term, if_term, guard_term, access_term, cons_term}
use Rattle.mz_arena.specs.Terms.{terms, term}
use Rattle.mz_partial.specs.Totals.{Splits}

abbrev node : NodeKind → ℕ → ℕ → ℕ → ℕ → Entry
node k a b c m = entry (record { kind = k; a = a; b = b; c = c; number = pos m })

abbrev domain : ℕ → Entry
domain m = record { node = record { kind = SetConst; a = 0; b = 0; c = 0; number = pos 0 }; set = (pos 0, pos m) ∷ [] }

-- each variable has this value
abbrev values : ℕ → Values
values n = record { number = λ k. pos n; set = λ k. [] }

-- 6 div x (3), with x in 0..2: where x isn't 0 (5), and 6 div (x, or 2 where it is 0) (8)
abbrev quotient : List Entry
quotient = domain 2 ∷ node Var 0 0 0 1 ∷ node Int 0 0 0 6 ∷ node Div 2 1 0 0 ∷ node Int 0 0 0 0 ∷ node Ne 1 4 0 0 ∷ node Int 0 0 0 2 ∷ node If 5 1 6 0 ∷ node Div 2 7 0 0 ∷ []

-- 7 mod x (3), with x in 0..2: where x isn't 0 (5), and 7 mod (x, or 2 where it is 0) (8)
abbrev remainder : List Entry
remainder = domain 2 ∷ node Var 0 0 0 1 ∷ node Int 0 0 0 7 ∷ node Mod 2 1 0 0 ∷ node Int 0 0 0 0 ∷ node Ne 1 4 0 0 ∷ node Int 0 0 0 2 ∷ node If 5 1 6 0 ∷ node Mod 2 7 0 0 ∷ []

abbrev SplitsAt : List Entry → ℕ → ℕ → ℕ → ℕ → Type 0
SplitsAt es n defined total old = Splits (term (values n) es defined) (term (values n) es total) (term (values n) es old)

-- [5, 7][x] (7), with x in 0..3: where 1 <= x and x <= 2 (12), and the access at x, or at 1 where it is outside (14)
abbrev access : List Entry
access = domain 3 ∷ node Var 0 0 0 1 ∷ node Int 0 0 0 5 ∷ node Int 0 0 0 7 ∷ node Nil 0 0 0 0 ∷ node Cons 3 4 0 0 ∷ node Cons 2 5 0 0 ∷ node Access 1 6 0 0 ∷ node Int 0 0 0 1 ∷ node Le 8 1 0 0 ∷ node Int 0 0 0 2 ∷ node Le 1 10 0 0 ∷ node And 9 11 0 0 ∷ node If 12 1 8 0 ∷ node Access 13 6 0 0 ∷ []

-- the least of no numbers (1): never (2), and 0 (3)
abbrev least : List Entry
least = node Nil 0 0 0 0 ∷ node Min 0 0 0 0 ∷ node BoolNode 0 0 0 0 ∷ node Int 0 0 0 0 ∷ []

-- the least (5) and the greatest (6) of 5 and 7, always (7)
abbrev extremes : List Entry
extremes = node Int 0 0 0 5 ∷ node Int 0 0 0 7 ∷ node Nil 0 0 0 0 ∷ node Cons 1 2 0 0 ∷ node Cons 0 3 0 0 ∷ node Min 4 0 0 0 ∷ node Max 4 0 0 0 ∷ node BoolNode 0 0 0 1 ∷ []

-- the least of 6 div x and 5 (14): where x isn't 0 (5), and the same over the total quotient (15)
abbrev listed : List Entry
listed = domain 2 ∷ node Var 0 0 0 1 ∷ node Int 0 0 0 6 ∷ node Div 2 1 0 0 ∷ node Int 0 0 0 0 ∷ node Ne 1 4 0 0 ∷ node Int 0 0 0 2 ∷ node If 5 1 6 0 ∷ node Div 2 7 0 0 ∷ node Nil 0 0 0 0 ∷ node Int 0 0 0 5 ∷ node Cons 10 9 0 0 ∷ node Cons 3 11 0 0 ∷ node Cons 8 11 0 0 ∷ node Min 12 0 0 0 ∷ node Min 13 0 0 0 ∷ []

-- 4 where the Boolean x is true (3): x itself (1), and 4 (2)
abbrev guarded : List Entry
guarded = domain 1 ∷ node Var 0 0 1 1 ∷ node Int 0 0 0 4 ∷ node Guard 1 2 0 0 ∷ []

-- whether 6 div x is 3 (10), and its total term (12); 6 div x where x isn't 0, else 1 (13), with the same over the total quotient (14), always defined (15)
abbrev nested : List Entry
nested = domain 2 ∷ node Var 0 0 0 1 ∷ node Int 0 0 0 6 ∷ node Div 2 1 0 0 ∷ node Int 0 0 0 0 ∷ node Ne 1 4 0 0 ∷ node Int 0 0 0 2 ∷ node If 5 1 6 0 ∷ node Div 2 7 0 0 ∷ node Int 0 0 0 3 ∷ node Eq 3 9 0 0 ∷ node Eq 8 9 0 0 ∷ node And 5 11 0 0 ∷ node If 5 3 9 0 ∷ node If 5 8 9 0 ∷ node BoolNode 0 0 0 1 ∷ []

pub record Work : Type 0 where
  pub divided_by_zero : SplitsAt quotient 0 5 8 3
  pub divided_by_two : SplitsAt quotient 2 5 8 3
  pub remainder_by_zero : SplitsAt remainder 0 5 8 3
  pub remainder_by_two : SplitsAt remainder 2 5 8 3
  pub before_the_first_place : SplitsAt access 0 12 14 7
  pub at_the_first_place : SplitsAt access 1 12 14 7
  pub at_the_last_place : SplitsAt access 2 12 14 7
  pub past_the_last_place : SplitsAt access 3 12 14 7
  pub least_of_none : SplitsAt least 0 2 3 1
  pub least_of_two : SplitsAt extremes 0 7 5 5
  pub greatest_of_two : SplitsAt extremes 0 7 6 6
  pub element_without_value : SplitsAt listed 0 5 15 14
  pub element_with_value : SplitsAt listed 2 5 15 14
  pub guarded_by_false : SplitsAt guarded 0 1 2 3
  pub guarded_by_true : SplitsAt guarded 1 1 2 3
  pub comparison_without_value : SplitsAt nested 0 15 12 10
  pub comparison_with_value : SplitsAt nested 2 15 12 10
  pub branch_not_taken : SplitsAt nested 0 15 14 13
  pub branch_taken : SplitsAt nested 2 15 14 13

pub work : Work
unfolding terms folded arith_term computed extreme_term toward comparison_term and_term if_term guard_term access_term cons_term
work = record {
  divided_by_zero = record { holds = false; value = number (pos 3); is_defined = refl; has_value = refl; is_old = refl };
  divided_by_two = record { holds = true; value = number (pos 3); is_defined = refl; has_value = refl; is_old = refl };
  remainder_by_zero = record { holds = false; value = number (pos 1); is_defined = refl; has_value = refl; is_old = refl };
  remainder_by_two = record { holds = true; value = number (pos 1); is_defined = refl; has_value = refl; is_old = refl };
  before_the_first_place = record { holds = false; value = number (pos 5); is_defined = refl; has_value = refl; is_old = refl };
  at_the_first_place = record { holds = true; value = number (pos 5); is_defined = refl; has_value = refl; is_old = refl };
  at_the_last_place = record { holds = true; value = number (pos 7); is_defined = refl; has_value = refl; is_old = refl };
  past_the_last_place = record { holds = false; value = number (pos 5); is_defined = refl; has_value = refl; is_old = refl };
  least_of_none = record { holds = false; value = number (pos 0); is_defined = refl; has_value = refl; is_old = refl };
  least_of_two = record { holds = true; value = number (pos 5); is_defined = refl; has_value = refl; is_old = refl };
  greatest_of_two = record { holds = true; value = number (pos 7); is_defined = refl; has_value = refl; is_old = refl };
  element_without_value = record { holds = false; value = number (pos 3); is_defined = refl; has_value = refl; is_old = refl };
  element_with_value = record { holds = true; value = number (pos 3); is_defined = refl; has_value = refl; is_old = refl };
  guarded_by_false = record { holds = false; value = number (pos 4); is_defined = refl; has_value = refl; is_old = refl };
  guarded_by_true = record { holds = true; value = number (pos 4); is_defined = refl; has_value = refl; is_old = refl };
  comparison_without_value = record { holds = true; value = number (pos 0); is_defined = refl; has_value = refl; is_old = refl };
  comparison_with_value = record { holds = true; value = number (pos 1); is_defined = refl; has_value = refl; is_old = refl };
  branch_not_taken = record { holds = true; value = number (pos 3); is_defined = refl; has_value = refl; is_old = refl };
  branch_taken = record { holds = true; value = number (pos 3); is_defined = refl; has_value = refl; is_old = refl };
}
