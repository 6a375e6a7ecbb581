use Rattle.std.proofs.Common.{sym, ◌∙◌}
use Rattle.mz_scope_names.proofs.Identifiers.{one_more, another, all_of_them}
use Rattle.mz_scope_names.proofs.given.identifiers.Goals as goal

pub returns-in-None : goal.returns-in-None
returns-in-None c = another c.args.list.now c.loop-datum.datum-index c.datum-item.result c.loop-datum.names.items _ c.loop-datum-test.true c.datum-item.is (sym c.identifier.ensures ∙ c.in-None.is) c.loop-datum.invariant

pub loop-datum-preserved : goal.loop-datum-preserved
loop-datum-preserved c = one_more c.args.list.now c.loop-datum.datum-index c.datum-item.result c.in-Some.name c.loop-datum.names.items c.push.new.self.items _ c.loop-datum-test.true c.datum-item.is (sym c.identifier.ensures ∙ c.in-Some.is) c.in_ok-push-in-Some.ensures.items c.loop-datum.invariant

pub returns : goal.returns
returns c = all_of_them c.args.list.now c.loop-datum.datum-index c.loop-datum.names.items _ c.loop-datum-test.false c.loop-datum.invariant
