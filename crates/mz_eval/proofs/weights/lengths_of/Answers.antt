use Rattle.std.proofs.Common.{◌∙◌, ap}
use Rattle.mz_meaning.specs.Calls.{all_lengths}
use Rattle.mz_eval_cells.specs.Views.{all_seen}
use Rattle.mz_eval.proofs.weights.lengths_of.Goals as goal

pub returns : goal.returns
returns c r = c.in_ok-sum.ensures r ∙ ap (λ ks. all_lengths c.args.n (all_seen r ks)) c.deref.ensures.value
