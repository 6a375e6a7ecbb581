use Rattle.mz_symbol.proofs.ConstantLaws.{out_value, out_state}
use Rattle.mz_symbol_arrays.proofs.ItemLaws.{and_settles, goes_nothing, sure_settles}
use Rattle.mz_symbol_arrays.proofs.items.settled.Goals as goal

pub returns-then-is_sure-clause-goes : goal.returns-then-is_sure-clause-goes
returns-then-is_sure-clause-goes c = goes_nothing 6 c.args.run.now

pub returns-then-is_sure-clause-settles : goal.returns-then-is_sure-clause-settles
returns-then-is_sure-clause-settles c r h = sure_settles r c.args.run.now c.arena.result.now c.args.x c.arena.ensures.nodes h (c.is_sure.ensures c.if-is_sure.true)

pub returns-clause-settles : goal.returns-clause-settles
returns-clause-settles c r h =
    let e = c.in_ok-y.ensures.means r h in
    and_settles r c.args.run.now c.both_node.new.run c.args.x c.in_ok-y.y (out_state e) (out_value e)
