use Rattle.mz_eval_declared.specs.Wants.{wants_of}
use Rattle.mz_eval_declared.proofs.Sizes.{fitting}
use Rattle.mz_eval_declared.proofs.fitting.fits_shape.Goals as goal

pub returns : goal.returns
returns c = fitting (wants_of c.args.ws.now) c.args.own.now c.args.ranges.now c.args.n _ _ _ c.requires.declared c.has_places.ensures c.same_dimensions.ensures c.both.ensures
