-- What the terms tell, over integers that may be undefined; private clauses only.
use Rattle.std.specs.Prelude.{ℕ, ◌+◌, ◌*◌, ℤ, pos, count_by, List, [], ◌∷◌, Bool, true, false, ◌&&◌, ◌||◌, Option, Some}
use Rattle.std.specs.List.{list_all}
use Rattle.mz_operations.specs.declared.row.Comparison.{Comparison}
use Rattle.mz_operations.specs.declared.row.Comparison.TheVariants as row
use Rattle.glob_nodes.specs.declared.nodes.Compare.TheVariants.{Equal, Differ, AtMost, Less}
use Rattle.mz_globals.specs.Lists.{stepwise}
use Rattle.mz_symbol.specs.Readings.{Reading}
use Rattle.glob_nodes.specs.Says.{compares, num}

abbrev pub differ_or_zero : Option ℤ → Option ℤ → Bool
differ_or_zero x y = compares Differ x y || compares Equal x (Some (pos 0))

abbrev pub in_order : Comparison → Option ℤ → Option ℤ → Bool
in_order row.Less x y = compares Less x y
in_order row.AtMost x y = compares AtMost x y
in_order row.Greater x y = compares Less y x
in_order row.AtLeast x y = compares AtMost y x

-- the first list comes before the second, or `same` where they are equal
abbrev pub lexed : Bool → List (Option ℤ) → List (Option ℤ) → Bool
lexed same [] [] = same
lexed same [] (y ∷ ys) = true
lexed same (x ∷ xs) [] = false
lexed same (x ∷ xs) (y ∷ ys) = compares AtMost x y && (compares Less x y || lexed same xs ys)

-- where t is, s was before
abbrev pub preceded_by : Option ℤ → Option ℤ → List (Option ℤ) → Bool
preceded_by s t [] = true
preceded_by s t (x ∷ xs) = compares Differ t x && (compares Equal s x || preceded_by s t xs)

-- how often a node's integer is among others
abbrev pub times : Reading → ℕ → List ℕ → ℕ
times r v ids = count_by (λ x. compares Equal (num r v) (num r x)) ids

-- both lists have it as often
abbrev pub is_as_often : Reading → List ℕ → List ℕ → ℕ → Bool
is_as_often r xs ys v = compares Equal (Some (pos (times r v xs))) (Some (pos (times r v ys)))

abbrev pub are_as_often : Reading → List ℕ → List ℕ → Bool
are_as_often r xs ys = list_all (λ v. is_as_often r xs ys v) xs && list_all (λ v. is_as_often r xs ys v) ys

abbrev pub sorted : Reading → List ℕ → List ℕ → Bool
sorted r xs ys = stepwise (λ x y. compares AtMost (num r x) (num r y)) ys && are_as_often r xs ys

-- what the nodes may cost that tell of each of n integers whether lists of these lengths have it equally often
abbrev pub often_room : ℕ → ℕ → ℕ → ℕ
often_room a b n = (14 * a + 14 * b + 6 + 6) * n

abbrev pub both_room : ℕ → ℕ → ℕ
both_room a b = often_room a b a + often_room a b b + 6

abbrev pub sort_room : ℕ → ℕ → ℕ
sort_room a b = 12 * b + both_room a b + 6
