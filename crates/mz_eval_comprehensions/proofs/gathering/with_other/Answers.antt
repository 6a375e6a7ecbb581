use Rattle.std.proofs.Common.{◌≡◌, ◌++◌, ◌∷◌, [], IfOk, map, subst}
use Rattle.mz_symbol.specs.Readings.{Reading}
use Rattle.mz_eval_cells.specs.Views.{seen}
use Rattle.mz_eval_arrays.specs.Gathered.{gathered_by}
use Rattle.mz_eval_comprehensions.specs.Views.{value_cell}
use Rattle.mz_eval_comprehensions.proofs.GatherLaws.{plain_gathered}
use Rattle.mz_eval_comprehensions.proofs.gathering.with_other.Goals as goal

pub returns-in-Some : goal.returns-in-Some
returns-in-Some c = plain_gathered c.with_value.result c.args.items.items c.args.k c.in-Some.v c.in-Some.ensures c.with_value.ensures

pub returns-in-None : goal.returns-in-None
returns-in-None c = subst (λ ys. IfOk c.with_var.result (λ g. (r : Reading) → gathered_by (seen r) g ≡ map value_cell ys ++ seen r c.args.k ∷ [])) c.deref.ensures.value c.with_var.ensures
