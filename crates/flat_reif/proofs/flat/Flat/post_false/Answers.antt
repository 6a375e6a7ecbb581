use Rattle.flat_reif.specs.States.{state}
use Rattle.flat_reif.proofs.Given.{on_ok}
use Rattle.flat_reif.proofs.Posting.{never_posted}
use Rattle.flat_reif.proofs.flat.Flat.post_false.Goals as goal

pub returns : goal.returns
returns c = record {
  posted = on_ok c.post_false.result _ _ (λ e. never_posted (state c.args.self.now) c.requires c.post_false.new.build e (λ f s. absurd (e.none f s))) c.post_false.ensures.emptied;
  none = on_ok c.post_false.result _ _ (λ e f s. e.none f s) c.post_false.ensures.emptied;
}
