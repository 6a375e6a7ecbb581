use Rattle.mz_symbol.proofs.ConstantLaws.{out_value, out_state}
use Rattle.mz_eval_symbols.proofs.CastLaws.{counted_is}
use Rattle.mz_eval_symbols.proofs.casts.counted.Goals as goal

pub returns-clause-cast : goal.returns-clause-cast
returns-clause-cast c r h =
    let e = c.in_ok-term.ensures.means r h in
    counted_is r c.args.run.now c.whole_node.new.run c.args.b c.args.s c.in_ok-term.term (c.is_counted.ensures c.if-not-is_counted.false) (out_state e) (out_value e)
