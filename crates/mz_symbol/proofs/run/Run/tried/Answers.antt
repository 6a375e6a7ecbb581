use Rattle.mz_symbol.proofs.RunLaws.{tried_by}
use Rattle.mz_symbol.proofs.run.Run.tried.Goals as goal

pub returns-clause-tried : goal.returns-clause-tried
returns-clause-tried c = tried_by c.args.self.now.arena c.checked.new.self c.args.n.now c.checked.result c.requires c.checked.ensures.checked
