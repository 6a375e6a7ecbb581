-- Mirror of src/truth.rt; private clauses only.
use Rattle.std.specs.Prelude.{ℕ, pos, int_le}
use Rattle.mz_arena.specs.Values.{Term, access_term, and_term, comparison_term, guard_term, to_int_term}
use Rattle.mz_symbol_access.specs.StepsPlace.{whole}

-- whether a place, from 1, is among so many
abbrev pub among_term : ℕ → Term → Term
among_term n x = and_term (comparison_term int_le (whole (pos 1)) x) (comparison_term int_le x (whole (pos n)))

-- the truth value at a place in a list of so many, as an integer
abbrev pub truth_term : ℕ → Term → Term → Term
truth_term n x list = guard_term (among_term n x) (to_int_term (access_term x list))
