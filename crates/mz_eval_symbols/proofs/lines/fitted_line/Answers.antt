use Rattle.std.proofs.Common.{◌∙◌, sym}
use Rattle.mz_core.specs.declared.types.Base.TheVariants as base
use Rattle.mz_symbol.proofs.ConstantLaws.{out_value, out_state}
use Rattle.mz_symbol_arrays.proofs.LineLaws.{goes_none}
use Rattle.mz_symbol_rows.proofs.RowLaws.{out_both}
use Rattle.mz_eval_symbols.proofs.LackingLaws.{bottom_line, fits_made}
use Rattle.mz_eval_symbols.proofs.LineLaws.{casts_line, casts_whole, goes_counted}
use Rattle.mz_eval_symbols.proofs.lines.fitted_line.Goals as goal

pub push_line-requires : goal.push_line-requires
push_line-requires c = casts_whole c.args.run.now c.args.run.now c.args.line c.in_ok-p.p.0 c.args.count base.Bottom c.in_ok-p.p.1.items c.in_ok-all.all.items 0 c.in_ok-p.ensures.line (goes_none c.args.run.now) (λ r h. fits_made r c.args.run.now c.args.count c.in_ok-p.p.1.items c.in_ok-all.all.items c.in_ok-all.ensures.made h)

pub returns-in_err-made-clause-goes : goal.returns-in_err-made-clause-goes
returns-in_err-made-clause-goes c = goes_counted _ c.args.count c.args.run.now c.push_line.new.self c.in_ok-all.ensures.count c.push_line.ensures.goes

pub returns-clause-goes : goal.returns-clause-goes
returns-clause-goes c = goes_counted _ c.args.count c.args.run.now c.push_line.new.self c.in_ok-all.ensures.count c.push_line.ensures.goes

pub returns-clause-means : goal.returns-clause-means
returns-clause-means c r h =
    let e = c.in_ok-made.ensures.means r h in
    let h1 = c.in_ok-made.ensures.goes.back r h in
    let a = fits_made r c.args.run.now c.args.count c.in_ok-p.p.1.items c.in_ok-all.all.items c.in_ok-all.ensures.made h1 in
    out_both (bottom_line (r.line c.args.line) ∙ casts_line r c.args.run.now c.args.run.now c.args.line c.in_ok-p.p.0 c.args.count base.Bottom c.in_ok-p.p.1.items c.in_ok-all.all.items c.in_ok-p.ensures.line h1 a (sym c.in_ok-p.ensures.count) ∙ out_value e) (out_state e)
