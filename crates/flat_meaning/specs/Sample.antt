-- A WORKED EXAMPLE: a program for a small model with an option, a set, an array and a choice.
-- var opt 1..2: o; var set of 1..2: s; array[1..2] of var bool: b; constraint let { var 1..2: y } in y = 2;
use Rattle.std.specs.Prelude.{ℕ, pos, true, false, List, [], ◌∷◌, ◌++◌, Some, None, codes}
use Rattle.mz_instance.specs.Sample.{one_or_two}
use Rattle.fz_program.specs.Names.{Name}
use Rattle.fz_program.specs.Arguments.{int, var, one, array}
use Rattle.fz_program.specs.declared.program.Domain.{Domain}
use Rattle.fz_program.specs.declared.program.Domain.TheVariants.{Bool as Truths, Ints, SetOf}
use Rattle.fz_program.specs.declared.program.FzGoal.TheVariants.{Satisfy}
use Rattle.fz_program.specs.declared.row_name.RowName.TheVariants.{IntEq, IntEqReif, BoolClause}
use Rattle.fz_program.specs.Flat.{Variable, Row, Program}

abbrev pub table : List Name
table = codes "o" ∷ codes "s" ∷ codes "b" ∷ []

abbrev shown : Name → Domain → Variable
shown x d = record { label = x; domain = d; introduced = false; defined = false; output = true }

abbrev element : Name → Variable
element x = record { label = x; domain = Truths; introduced = false; defined = false; output = false }

-- the choice, and whether o's value is 1, which a row defines
abbrev pub made : List Variable
made =
    record { label = codes "X_INTRODUCED_0_"; domain = Ints one_or_two; introduced = true; defined = false; output = false }
    ∷ record { label = codes "X_INTRODUCED_1_"; domain = Truths; introduced = true; defined = true; output = false } ∷ []

abbrev pub front : List Variable
front = shown (codes "X_OCC_o") Truths ∷ shown (codes "X_VAL_o") (Ints one_or_two) ∷ shown (codes "s") (SetOf one_or_two) ∷ element (codes "X_ELT_1_b") ∷ element (codes "X_ELT_2_b") ∷ []

-- the choice is 2; and o is there, or its value is 1
abbrev pub rows : List Row
rows =
    record { name = IntEqReif; args = one (var 1) ∷ one (int (pos 1)) ∷ one (var 6) ∷ []; defines = Some 6 }
    ∷ record { name = BoolClause; args = array (var 0 ∷ var 6 ∷ []) ∷ array [] ∷ []; defines = None }
    ∷ record { name = IntEq; args = one (var 5) ∷ one (int (pos 2)) ∷ []; defines = None } ∷ []

abbrev pub program : Program
program = record { vars = front ++ made; arrays = record { label = codes "b"; index = one_or_two; items = 3 ∷ 4 ∷ [] } ∷ []; rows = rows; goal = Satisfy }
