use Rattle.std.proofs.Common.{◌∙◌, drop, sym, ap}
use Rattle.mz_eval_access.specs.Places.{places_of}
use Rattle.mz_eval_access.proofs.Places.{items_after, bounds_after}
use Rattle.mz_eval_access.proofs.placing.after.Goals as goal

pub returns-in-Items : goal.returns-in-Items
returns-in-Items c m e = items_after _ _ m (c.values_after.ensures m e) ∙ sym (ap (λ p. drop m (places_of p)) c.in-Items.is)

pub returns-in-Bounds : goal.returns-in-Bounds
returns-in-Bounds c m e = bounds_after _ _ m (c.bounds_after.ensures m e) ∙ sym (ap (λ p. drop m (places_of p)) c.in-Bounds.is)
