use Rattle.mz_arena.specs.Entries.{entry}
use Rattle.mz_arena.proofs.Put.{at_most_grew, at_most_extends, at_most_charges, puts_at_most, puts_checked, puts_anew}
use Rattle.mz_arena.proofs.arena.Arena.checked.Goals as goal

pub returns-clause-grew : goal.returns-clause-grew
returns-clause-grew c = at_most_grew c.args.self.now c.put.new.self (entry c.args.n) (puts_at_most c.args.self.now c.put.new.self c.args.n c.put.result c.put.ensures)

pub returns-clause-checked : goal.returns-clause-checked
returns-clause-checked c = puts_checked c.args.self.now c.put.new.self c.args.n c.put.result c.put.ensures

pub returns-clause-pushed : goal.returns-clause-pushed
returns-clause-pushed c = puts_at_most c.args.self.now c.put.new.self c.args.n c.put.result c.put.ensures

pub returns-clause-frees : goal.returns-clause-frees
returns-clause-frees c = at_most_extends c.args.self.now c.put.new.self (entry c.args.n) (puts_at_most c.args.self.now c.put.new.self c.args.n c.put.result c.put.ensures)

pub returns-clause-anew : goal.returns-clause-anew
returns-clause-anew c = λ f. puts_anew c.args.self.now c.put.new.self c.args.n c.put.result c.put.ensures

pub returns-clause-charged : goal.returns-clause-charged
returns-clause-charged c = at_most_charges c.args.self.now c.put.new.self (entry c.args.n) (puts_at_most c.args.self.now c.put.new.self c.args.n c.put.result c.put.ensures)
