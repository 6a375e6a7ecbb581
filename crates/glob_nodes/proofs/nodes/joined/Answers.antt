use Rattle.std.proofs.Common.{subst, sym}
use Rattle.mz_arena.specs.Values.{is_true}
use Rattle.mz_symbol.specs.Runs.{ReadsNodes}
use Rattle.glob_nodes.specs.Says.{joins}
use Rattle.glob_nodes.specs.StepsKnown.{IsJoin}
use Rattle.glob_nodes.proofs.KnownLaws.{known_says, node_says}
use Rattle.glob_nodes.proofs.nodes.joined.Goals as goal

pub returns-in_ok-id-in-Truth-clause-says : goal.returns-in_ok-id-in-Truth-clause-says
returns-in_ok-id-in-Truth-clause-says c = known_says c.args.run.now c.truth.new.run (λ r. joins c.args.op (is_true (r.term c.args.a)) (is_true (r.term c.args.b))) c.in-Truth.p c.in_ok-id-in-Truth.id c.in_ok-id-in-Truth.ensures.says (λ r h. subst (IsJoin r (joins c.args.op (is_true (r.term c.args.a)) (is_true (r.term c.args.b)))) c.in-Truth.is (c.in-Some.ensures r (subst (ReadsNodes r.term) (sym c.arena.ensures.nodes) (c.in_ok-id-in-Truth.ensures.goes.back r h).nodes)))

pub returns-in-Node-clause-says : goal.returns-in-Node-clause-says
returns-in-Node-clause-says c = node_says c.args.run.now (λ r. joins c.args.op (is_true (r.term c.args.a)) (is_true (r.term c.args.b))) c.in-Node.id (λ r h. subst (IsJoin r (joins c.args.op (is_true (r.term c.args.a)) (is_true (r.term c.args.b)))) c.in-Node.is (c.in-Some.ensures r (subst (ReadsNodes r.term) (sym c.arena.ensures.nodes) h.nodes)))
