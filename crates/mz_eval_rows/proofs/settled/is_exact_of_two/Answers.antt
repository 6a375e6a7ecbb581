use Rattle.std.proofs.Common.{◌∙◌, [], ◌∷◌, subst, sym}
use Rattle.mz_meaning.specs.Cells.{value_of}
use Rattle.mz_operations.specs.declared.row.Row.{Row}
use Rattle.mz_eval_cells.specs.Views.{cell_of}
use Rattle.mz_eval_rows.specs.Settled.{IsExact}
use Rattle.mz_eval_rows.proofs.SettledLaws.{plain_exact, power_is}
use Rattle.mz_eval_rows.proofs.settled.is_exact_of_two.Goals as goal

pub returns-then-is_power : goal.returns-then-is_power
returns-then-is_power c h =
    let vs = value_of (cell_of c.args.x.now) ∷ value_of (cell_of c.args.y.now) ∷ [] in
    subst (λ (w : Row). IsExact w vs) (power_is c.args.row (sym c.is_power.ensures ∙ c.if-is_power.true)) (c.power_is_undefined.ensures h)

pub returns-else-is_power : goal.returns-else-is_power
returns-else-is_power c h = plain_exact c.args.row (value_of (cell_of c.args.x.now) ∷ value_of (cell_of c.args.y.now) ∷ []) (sym c.is_plain.ensures ∙ h)
