use Rattle.std.proofs.Common.{None, Some}
use Rattle.mz_symbol_arrays.proofs.ItemLaws.{of_symbol}
use Rattle.mz_symbol_arrays.proofs.items.item.Goals as goal

pub returns-in_ok-p-in-None-clause-item : goal.returns-in_ok-p-in-None-clause-item
returns-in_ok-p-in-None-clause-item c r h = of_symbol r c.args.run.now c.plain_item.new.run c.args.s c.in_ok-p-in-None.p.0 None c.in_ok-p-in-None.p.1 c.in-None.is (c.in_ok-p-in-None.ensures.item r h)

pub returns-in_ok-q-in-Some-clause-item : goal.returns-in_ok-q-in-Some-clause-item
returns-in_ok-q-in-Some-clause-item c r h = of_symbol r c.args.run.now c.option_of.new.run c.args.s c.in_ok-q-in-Some.q.0 (Some c.in-Some.o) c.in_ok-q-in-Some.q.1 c.in-Some.is (c.in_ok-q-in-Some.ensures.item r h)
