use Rattle.mz_eval_cells.specs.Views.{cell_of}
use Rattle.mz_eval_declared.specs.Wants.{wanted, wants_of}
use Rattle.mz_eval_declared.proofs.Told.{kept_ends, kept_gives}
use Rattle.mz_eval_declared.proofs.fitting.kept.Goals as goal

pub returns-in_err-f : goal.returns-in_err-f
returns-in_err-f c = kept_ends c.args.at (wants_of c.args.ws.now) (wanted c.args.w.now) (cell_of c.args.k) c.from_residual.result c.in_err-f.field-0.0 c.from_residual.ensures.1 c.in_err-f.ensures.of

pub returns : goal.returns
returns c = kept_gives c.args.at (wants_of c.args.ws.now) (wanted c.args.w.now) (cell_of c.args.k) c.in_ok-f.f c.in_ok-p.p c.in_ok-f.ensures.of c.in_ok-p.ensures
