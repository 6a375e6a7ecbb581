use Rattle.std.proofs.Common.{subst, sym}
use Rattle.mz_symbol.specs.Runs.{ReadsNodes}
use Rattle.glob_nodes.specs.Says.{compares, num}
use Rattle.glob_nodes.proofs.KnownLaws.{known_says}
use Rattle.glob_nodes.proofs.nodes.compared.Goals as goal

pub returns-clause-says : goal.returns-clause-says
returns-clause-says c = known_says c.args.run.now c.truth.new.run (λ r. compares c.args.op (num r c.args.a) (num r c.args.b)) c.in-Some.p c.in_ok-id.id c.in_ok-id.ensures.says (λ r h. c.in-Some.ensures r (subst (ReadsNodes r.term) (sym c.arena.ensures.nodes) (c.in_ok-id.ensures.goes.back r h).nodes))
