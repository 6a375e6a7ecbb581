-- The code's arguments as operands of a sum and of a multiple.
use Rattle.std.proofs.Common.{ℤ, List, [], ◌∷◌}
use Rattle.mz_arena.specs.declared.node.NodeKind.TheVariants.{Add, Mul}
use Rattle.fz_program.specs.declared.row_name.RowName.TheVariants.{IntLinEq}
use Rattle.fz_program.specs.Arguments.{Plain, int, Argument, plain_of}
use Rattle.fz_program.specs.Flat.{Program}
use Rattle.flat_reif_rows.specs.NodeRows.{sum_inputs, multiple_inputs}
use Rattle.flat_reif_rows.specs.Making.{MayGive, Gives, AreOperands, Makes}
use Rattle.flat_reif_rows.proofs.Given.{makes_by, Always}
use Rattle.flat_reif_rows.proofs.SumRows.{row_sum, row_multiple}

-- `sum_inputs` and `multiple_inputs` read their arguments by `plain_of` alone.
module _ (x y : Argument) where
  abbrev Both : List Plain
  Both = plain_of x ∷ plain_of y ∷ []

  pub sum_may : (p : Program) → AreOperands p.vars Add Both → MayGive p IntLinEq (sum_inputs x y)
  sum_may p o = (row_sum (plain_of x) (plain_of y)).may p tt o.bounds o.suit o.known

  pub sum_makes : (old new : Program) (out : Argument) → AreOperands old.vars Add Both → Gives old new IntLinEq (sum_inputs x y) (plain_of out) → Makes old new Add Both (plain_of out)
  sum_makes old new out o g = makes_by old new Add IntLinEq Both (sum_inputs x y) (plain_of out) Always (row_sum (plain_of x) (plain_of y)) tt o g

module _ (n : ℤ) (x : Argument) where
  abbrev Times : List Plain
  Times = int n ∷ plain_of x ∷ []

  pub multiple_may : (p : Program) → AreOperands p.vars Mul Times → MayGive p IntLinEq (multiple_inputs n x)
  multiple_may p o = (row_multiple n (plain_of x)).may p tt o.bounds o.suit o.known

  pub multiple_makes : (old new : Program) (out : Argument) → AreOperands old.vars Mul Times → Gives old new IntLinEq (multiple_inputs n x) (plain_of out) → Makes old new Mul Times (plain_of out)
  multiple_makes old new out o g = makes_by old new Mul IntLinEq Times (multiple_inputs n x) (plain_of out) Always (row_multiple n (plain_of x)) tt o g
