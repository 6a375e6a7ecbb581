use Rattle.mz_model_roots.specs.Placed.{place_over}
use Rattle.mz_model_roots.proofs.NextPlaces.{shaped}
use Rattle.mz_model_roots.proofs.places.may_be_declared.Goals as goal

pub returns : goal.returns
returns c h = shaped (place_over c.args.base c.args.opt c.args.set.now) c.ranges-canonical.ensures.canonical c.ranges-canonical.ensures.limits (c.is_suited.ensures h)
