-- What the terms tell, over integers that may be undefined; private clauses only.
use Rattle.std.specs.Prelude.{ℕ, ◌+◌, ℤ, pos, Bool, cond, count_by, List, [], ◌∷◌, Option, Some}
use Rattle.std.specs.List.{list_all}
use Rattle.mz_operations.specs.declared.row.Arith.TheVariants as arith
use Rattle.mz_operations.specs.Views.{number_of_bool}
use Rattle.mz_arena.specs.Values.{Term, arith_term}
use Rattle.mz_arena.specs.Values as terms
use Rattle.mz_globals.specs.declared.global.Relation.{Relation}
use Rattle.mz_globals.specs.declared.global.Relation.TheVariants as relation
use Rattle.glob_nodes.specs.declared.nodes.Compare.TheVariants.{Equal, Differ, AtMost}
use Rattle.mz_symbol.specs.Readings.{Reading}
use Rattle.glob_nodes.specs.Says.{compares, num}

-- how a count stands to n
abbrev pub counts_so : Relation → Option ℤ → Option ℤ → Bool
counts_so relation.AtLeast n count = compares AtMost n count
counts_so relation.AtMost n count = compares AtMost count n
counts_so relation.Exactly n count = compares Equal count n

-- each is counted where it isn't met again
abbrev pub distinct_among : List (Option ℤ) → ℕ
distinct_among [] = 0
distinct_among (x ∷ xs) = cond (list_all (compares Differ x) xs) 1 0 + distinct_among xs

-- one more where a node's integer is none of those after it
abbrev pub with_last : Reading → ℕ → List ℕ → Term → Term
with_last r x later t = arith_term arith.Add (Some (terms.number (number_of_bool (list_all (λ y. compares Differ (num r x) (num r y)) later)))) t

-- a value of a cover is so often among these nodes
abbrev pub is_count : Reading → List ℕ → ℕ × ℕ → Bool
is_count r ids p = counts_so relation.Exactly (num r p.1) (Some (pos (count_by (λ x. compares Equal (num r p.0) (num r x)) ids)))
