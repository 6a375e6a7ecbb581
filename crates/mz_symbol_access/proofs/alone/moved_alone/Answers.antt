use Rattle.std.proofs.Common.{◌≡◌, ◌∙◌, IfSome, ap, subst}
use Rattle.mz_symbol.specs.Readings.{IsNodeOf, node_meaning}
use Rattle.mz_symbol_access.proofs.AloneLaws.{alone_direct}
use Rattle.mz_symbol_access.proofs.alone.moved_alone.Goals as goal

pub returns-in-Some-clause-alone : goal.returns-in-Some-clause-alone
returns-in-Some-clause-alone c r h =
    let t = c.tried.ensures in
    let is : r.term c.in-Some.id ≡ node_meaning r c.sum_node-sum.result = (subst (λ o. IfSome o (IsNodeOf c.tried.new.self c.sum_node-sum.result)) c.in-Some.is c.in_ok-direct.ensures.tried) r h in
    alone_direct r c.args.run.now c.step_node.new.run c.tried.new.self c.args.range.now c.args.x c.in-Ok.step c.in-Some.id (c.in-Ok.ensures.means r (t.goes.back r h)) (t.same r) (is ∙ ap (node_meaning r) c.sum_node-sum.ensures)
