use Rattle.std.proofs.Common.{◌∙◌, sym}
use Rattle.mz_arena.specs.Values.{is_true}
use Rattle.glob_nodes.proofs.KnownLaws.{join_absorbed, join_kept}
use Rattle.glob_nodes.proofs.known.joined_to.Goals as goal

pub returns-then-not-is_same : goal.returns-then-not-is_same
returns-then-not-is_same c r h = join_absorbed c.args.op c.args.p c.in-Some.q (is_true (r.term c.args.other)) (sym c.neutral.ensures ∙ c.in-Some.is) (c.is_same.ensures.other c.if-not-is_same.true)

pub returns-in-Some-itself : goal.returns-in-Some-itself
returns-in-Some-itself c r h = join_kept r c.args.op c.args.p c.in-Some.q (is_true (r.term c.args.other)) c.in-Some-itself.k (sym c.neutral.ensures ∙ c.in-Some.is) (c.is_same.ensures.same c.if-not-is_same.false) (c.in-Some-itself.ensures r h)
