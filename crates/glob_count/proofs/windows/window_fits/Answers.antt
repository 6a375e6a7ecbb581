use Rattle.std.proofs.Common.{◌&&◌}
use Rattle.glob_nodes.specs.declared.nodes.Compare.TheVariants.{AtMost}
use Rattle.glob_nodes.specs.Says.{num, compares}
use Rattle.glob_nodes.proofs.Saying.{ok_so}
use Rattle.glob_nodes.proofs.IntegerNodes.{says_over_number}
use Rattle.glob_count.proofs.windows.window_fits.Goals as goal

pub returns-clause-says : goal.returns-clause-says
returns-clause-says c = ok_so c.is_between.result c.is_between.ensures.says (λ id s. says_over_number c.args.run.now c.sum_of.new.run c.is_between.new.run _ (λ r t. compares AtMost (num r c.args.low) t && compares AtMost t (num r c.args.up)) c.in_ok-sum.sum id _ c.in_ok-sum.ensures.is c.is_between.ensures.goes s)
