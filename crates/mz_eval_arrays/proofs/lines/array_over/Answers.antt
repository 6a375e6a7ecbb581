use Rattle.std.proofs.Common.{◌∙◌, length, sym}
use Rattle.mz_symbol.proofs.ConstantLaws.{out_value, out_state}
use Rattle.mz_symbol_rows.proofs.RowLaws.{out_both}
use Rattle.mz_eval_arrays.proofs.Seeing.{array_seen, goes_line}
use Rattle.mz_eval_arrays.proofs.lines.array_over.Goals as goal

pub returns-in_err-line-clause-goes : goal.returns-in_err-line-clause-goes
returns-in_err-line-clause-goes c = goes_line (length c.args.all.now) c.args.run.now c.symbols_of.new.run c.symbols_line.new.run c.in-Ok.ss.items c.in-Ok.ensures.count c.symbols_of.ensures.goes c.symbols_line.ensures.goes

pub returns-in_err-k-clause-goes : goal.returns-in_err-k-clause-goes
returns-in_err-k-clause-goes c = goes_line (length c.args.all.now) c.args.run.now c.symbols_of.new.run c.symbols_line.new.run c.in-Ok.ss.items c.in-Ok.ensures.count c.symbols_of.ensures.goes c.symbols_line.ensures.goes

pub returns-clause-goes : goal.returns-clause-goes
returns-clause-goes c = goes_line (length c.args.all.now) c.args.run.now c.symbols_of.new.run c.symbols_line.new.run c.in-Ok.ss.items c.in-Ok.ensures.count c.symbols_of.ensures.goes c.symbols_line.ensures.goes

pub returns-clause-means : goal.returns-clause-means
returns-clause-means c r h =
    let e = c.in_ok-line.ensures.means r h in
    let a = c.in-Ok.ensures.made r (c.in_ok-line.ensures.goes.back r h) in
    out_both
    (
    array_seen r c.args.all.now c.in-Ok.ss.items c.args.ranges.items c.in_ok-index.index.value.items c.in_ok-held.held.value.items c.in_ok-line.line c.in_ok-held.ensures c.in_ok-index.ensures a.values (out_value e)
    ∙ sym (c.in_ok-k.ensures.seen r)
    )
    (a.same ∙ out_state e)
