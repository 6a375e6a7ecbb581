use Rattle.std.proofs.Common.{◌∙◌, sym}
use Rattle.mz_symbol.proofs.ConstantLaws.{out_value, out_state}
use Rattle.mz_symbol_rows.proofs.RowLaws.{out_both}
use Rattle.mz_eval_symbols.proofs.LineLaws.{casts_line, casts_whole, goes_casts}
use Rattle.mz_eval_symbols.proofs.lines.cast_line.Goals as goal

pub push_line-requires : goal.push_line-requires
push_line-requires c = casts_whole c.args.run.now c.casts_of.new.run c.args.line c.in_ok-p.p.0 c.args.count c.args.b c.in_ok-p.p.1.items c.in-Ok.all.items _ c.in_ok-p.ensures.line c.in-Ok.ensures.goes c.in-Ok.ensures.made

pub returns-in_err-made-clause-goes : goal.returns-in_err-made-clause-goes
returns-in_err-made-clause-goes c = goes_casts c.args.count c.args.run.now c.casts_of.new.run c.push_line.new.self c.in-Ok.all.items c.in-Ok.ensures.count c.casts_of.ensures.goes c.push_line.ensures.goes

pub returns-clause-goes : goal.returns-clause-goes
returns-clause-goes c = goes_casts c.args.count c.args.run.now c.casts_of.new.run c.push_line.new.self c.in-Ok.all.items c.in-Ok.ensures.count c.casts_of.ensures.goes c.push_line.ensures.goes

pub returns-clause-means : goal.returns-clause-means
returns-clause-means c r h =
    let e = c.in_ok-made.ensures.means r h in
    let h1 = c.in_ok-made.ensures.goes.back r h in
    let a = c.in-Ok.ensures.made r h1 in
    out_both (casts_line r c.args.run.now c.casts_of.new.run c.args.line c.in_ok-p.p.0 c.args.count c.args.b c.in_ok-p.p.1.items c.in-Ok.all.items c.in_ok-p.ensures.line (c.in-Ok.ensures.goes.back r h1) a (sym c.in_ok-p.ensures.count) ∙ out_value e) (a.same ∙ out_state e)
