use Rattle.std.proofs.Common.{refl, subst, sym}
use Rattle.mz_symbol.specs.Runs.{ReadsNodes}
use Rattle.glob_nodes.proofs.nodes.multiply.Goals as goal

pub returns-in-Some-clause-gives : goal.returns-in-Some-clause-gives
returns-in-Some-clause-gives c = record { same = λ r h. refl; is = λ r h. sym (c.in-Some.ensures r (subst (ReadsNodes r.term) (sym c.arena.ensures.nodes) h.nodes)) }
