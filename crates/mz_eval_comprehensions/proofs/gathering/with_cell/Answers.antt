use Rattle.std.proofs.Common.{refl}
use Rattle.mz_eval_cells.specs.Views.{seen}
use Rattle.mz_eval_comprehensions.proofs.GatherLaws.{seen_push}
use Rattle.mz_eval_comprehensions.proofs.gathering.with_cell.Goals as goal

pub returns : goal.returns
returns c r = seen_push (seen r) _ c.args.cells.items c.args.k _ c.in_ok-push.ensures.items refl
