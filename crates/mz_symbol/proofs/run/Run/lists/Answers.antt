use Rattle.std.proofs.Common.{subst}
use Rattle.mz_symbol.specs.StepsCons.{IsListed}
use Rattle.mz_symbol.proofs.ConsLaws.{made_lists}
use Rattle.mz_symbol.proofs.run.Run.lists.Goals as goal

pub returns-in-Made-clause-lists : goal.returns-in-Made-clause-lists
returns-in-Made-clause-lists c = made_lists c.args.self.now c.args.line c.in-Made.lists (subst (λ x. IsListed c.args.self.now c.args.line x) c.in-Made.is c.in-Some.ensures)
