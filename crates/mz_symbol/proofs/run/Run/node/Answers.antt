use Rattle.mz_arena.specs.Charges.{charge_of}
use Rattle.mz_symbol.proofs.RunLaws.{nodes_go}
use Rattle.mz_symbol.proofs.run.Run.node.Goals as goal

pub returns-in-Some-clause-goes : goal.returns-in-Some-clause-goes
returns-in-Some-clause-goes c = nodes_go (charge_of c.args.n.now.kind) c.args.self.now c.checked.new.self c.checked.ensures.adds
