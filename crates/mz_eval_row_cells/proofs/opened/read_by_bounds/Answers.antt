use Rattle.std.proofs.Common.{ap, ◌∙◌}
use Rattle.std.specs.Option.{option_map}
use Rattle.mz_core.specs.Types.{plain_type}
use Rattle.mz_meaning.specs.Cells.{Par}
use Rattle.mz_meaning.specs.Coerced.{recast}
use Rattle.mz_eval_row_cells.proofs.Told.{tells_given}
use Rattle.mz_eval_row_cells.proofs.opened.read_by_bounds.Goals as goal

pub returns : goal.returns
unfolding plain_type
returns c = tells_given c.in_ok-k.k _ (c.in_ok-k.ensures ∙ ap (λ v. Par (option_map (recast c.args.t.now.base) v)) c.in_ok-v.ensures)
