use Rattle.std.proofs.Common.{sym}
use Rattle.glob_nodes.proofs.KnownLaws.{truth_read}
use Rattle.glob_nodes.proofs.known.truth_at.Goals as goal

pub returns-in-Bool : goal.returns-in-Bool
returns-in-Bool c t h = truth_read c.args.nodes.now c.args.id c.in-Some.n c.is_one.result c.in-Some.ensures c.in-Bool.is (sym c.is_one.ensures) t h
