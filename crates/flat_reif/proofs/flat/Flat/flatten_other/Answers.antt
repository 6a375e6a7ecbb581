use Rattle.flat_reif.specs.States.{state}
use Rattle.flat_reif.proofs.Below.{nil_given, cons_given}
use Rattle.flat_reif.proofs.flat.Flat.flatten_other.Goals as goal

pub returns-in-Nil : goal.returns-in-Nil
returns-in-Nil c = nil_given (state c.args.self.now) c.args.id c.args.n.now c.requires.state c.requires.ready c.in-Nil.is

pub returns-in-Cons : goal.returns-in-Cons
returns-in-Cons c = cons_given (state c.args.self.now) c.args.id c.args.n.now c.requires.state c.requires.ready c.in-Cons.is
