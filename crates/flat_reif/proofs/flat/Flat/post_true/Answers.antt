use Rattle.fz_program.specs.Arguments.{plain}
use Rattle.flat_reif.specs.States.{state}
use Rattle.flat_reif.proofs.Given.{on_ok}
use Rattle.flat_reif.proofs.Posting.{truth_sort, true_posted}
use Rattle.flat_reif.proofs.flat.Flat.post_true.Goals as goal

pub post_true-requires : goal.post_true-requires
post_true-requires c = truth_sort (state c.args.self.now) c.requires.state c.args.id (plain c.in-Ok.x) c.in-Ok.ensures c.requires.truth

pub returns : goal.returns
returns c = on_ok c.post_true.result _ _ (true_posted (state c.args.self.now) c.requires.state c.args.id (plain c.in-Ok.x) c.post_true.new.build c.in-Ok.ensures) c.post_true.ensures.forced
