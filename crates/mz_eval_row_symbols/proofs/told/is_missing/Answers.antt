use Rattle.std.proofs.Common.{◌∙◌, ap, sym}
use Rattle.mz_eval_cells.specs.Views.{var_content}
use Rattle.mz_eval_row_symbols.proofs.NeverLaws.{nothing_value}
use Rattle.mz_eval_row_symbols.proofs.told.is_missing.Goals as goal

pub returns-in-Var : goal.returns-in-Var
returns-in-Var c h r = nothing_value r c.args.k.now c.in-Var.v c.in-Var.is (λ t. ap (var_content t) (sym c.deref.ensures) ∙ c.is_nothing.ensures h t)
