use Rattle.mz_eval_symbols.proofs.ConstantLaws.{one_constant}
use Rattle.mz_eval_symbols.proofs.Lists.{one_longer}
use Rattle.mz_eval_symbols.proofs.constants.with_constant.Goals as goal

pub returns-clause-more : goal.returns-clause-more
returns-clause-more c r h = one_constant r c.args.run.now c.item.new.run c.args.cast c.args.items.now c.args.i c.in-Some.x.now c.in_ok-copy.copy c.cast_value-v.result c.args.all.items c.push.new.self.items c.in_ok-s.s c.in-Some.ensures c.in_ok-copy.ensures c.cast_value-v.ensures (c.in_ok-s.ensures.constant r h) c.in_ok-push.ensures.items

pub returns-clause-count : goal.returns-clause-count
returns-clause-count c = one_longer c.args.all.items c.push.new.self.items _ c.in_ok-push.ensures.items
