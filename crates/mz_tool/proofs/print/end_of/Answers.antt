use Rattle.mz_tool.proofs.Printings.{refused_at}
use Rattle.mz_tool.proofs.print.end_of.Goals as goal

pub returns-in-Refused-clause-is : goal.returns-in-Refused-clause-is
returns-in-Refused-clause-is c = λ table. rw c.in-Refused.is (refused_at table c.args.read.now c.in-Refused.fault c.owner_of.result (c.owner_of.ensures.is table))
