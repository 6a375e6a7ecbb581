use Rattle.std.proofs.Common.{◌∙◌}
use Rattle.mz_symbol.proofs.ConstantLaws.{out_value, out_state}
use Rattle.mz_symbol_arrays.proofs.ItemLaws.{goes_nothing, if_fills, sure_fills}
use Rattle.mz_symbol_arrays.proofs.items.filled.Goals as goal

pub returns-then-is_sure-clause-goes : goal.returns-then-is_sure-clause-goes
returns-then-is_sure-clause-goes c = goes_nothing 16 c.args.run.now

pub returns-then-is_sure-clause-fills : goal.returns-then-is_sure-clause-fills
returns-then-is_sure-clause-fills c r h = sure_fills r c.args.run.now c.arena.result.now c.args.o c.args.x c.arena.ensures.nodes h (c.is_sure.ensures c.if-is_sure.true)

pub returns-clause-fills : goal.returns-clause-fills
returns-clause-fills c r h =
    let e = c.in_ok-y.ensures.means r h in
    let f = c.in_ok-none.ensures.means r (c.in_ok-y.ensures.goes.back r h) in
    if_fills r c.args.run.now c.chosen_node.new.run c.args.o c.args.x c.in_ok-y.y c.in_ok-none.none _ (out_state f ∙ out_state e) (out_value f) (out_value e)
