use Rattle.mz_eval_symbols.proofs.LackingLaws.{cons_lack, nil_lacks}
use Rattle.mz_eval_symbols.proofs.lacking.of_lists.Goals as goal

pub returns-then-is_nil : goal.returns-then-is_nil
returns-then-is_nil c = nil_lacks c.args.nodes.now c.args.o c.args.x (c.is_nil.ensures c.if-is_nil.true)

pub returns : goal.returns
returns c = cons_lack c.args.nodes.now c.args.o c.args.x c.in-Some.p c.in-Some-pair_at.q c.in-Some.ensures c.in-Some-pair_at.ensures
