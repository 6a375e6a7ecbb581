use Rattle.std.proofs.Common.{◌∙◌, sym}
use Rattle.mz_eval_cells.proofs.Casts.{cast_twice}
use Rattle.mz_eval_cells.proofs.recasting.sets_cast.Goals as goal

pub returns-then-is_set_cast-2 : goal.returns-then-is_set_cast-2
returns-then-is_set_cast-2 c v = cast_twice c.args.first c.args.b v (sym c.is_set_cast.ensures ∙ c.if-is_set_cast.true) (sym c.is_set_cast-then-is_set_cast.ensures ∙ c.if-is_set_cast-2.true)
