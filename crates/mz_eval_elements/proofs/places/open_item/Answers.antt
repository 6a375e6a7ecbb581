use Rattle.std.proofs.Common.{◌∙◌}
use Rattle.mz_eval_cells.specs.Views.{seen}
use Rattle.mz_meaning.specs.Cells.{value_of}
use Rattle.mz_symbol.proofs.ConstantLaws.{out_value, out_state}
use Rattle.mz_symbol_rows.proofs.GoingOn.{goes_drawn}
use Rattle.mz_symbol_rows.proofs.RowLaws.{out_both}
use Rattle.mz_eval_elements.proofs.PlaceLaws.{found_told, open_told}
use Rattle.mz_eval_elements.proofs.places.open_item.Goals as goal

pub returns-in_err-s-clause-goes : goal.returns-in_err-s-clause-goes
returns-in_err-s-clause-goes c = goes_drawn 28 c.args.run.now c.draw.new.self c.guarded_symbol.new.run c.in_ok-draw.ensures.spares c.guarded_symbol.ensures.goes

pub returns-in_err-k-clause-goes : goal.returns-in_err-k-clause-goes
returns-in_err-k-clause-goes c = goes_drawn 28 c.args.run.now c.draw.new.self c.guarded_symbol.new.run c.in_ok-draw.ensures.spares c.guarded_symbol.ensures.goes

pub returns-clause-goes : goal.returns-clause-goes
returns-clause-goes c = goes_drawn 28 c.args.run.now c.draw.new.self c.guarded_symbol.new.run c.in_ok-draw.ensures.spares c.guarded_symbol.ensures.goes

pub returns-clause-means : goal.returns-clause-means
returns-clause-means c r h =
    let e = c.in_ok-s.ensures.means r h in
    let h0 = c.draw.ensures.goes.back r (c.in_ok-s.ensures.goes.back r h) in
    out_both
    (
    open_told r c.args.base c.args.opt c.args.cast c.args.line c.args.n c.in_ok-found.found.0 c.in_ok-own.own c.in_ok-k.k c.in_ok-s.s
    (found_told r c.args.run.now c.args.line c.in_ok-found.found.0 c.in_ok-found.found.1 c.args.n c.in-Some.y c.args.cast (value_of (seen r c.in_ok-own.own)) c.in_ok-found.ensures.line c.in-Some.ensures h0 (c.in_ok-own.ensures.seen r))
    (out_value e)
    (c.in_ok-k.ensures.seen r)
    )
    (c.draw.ensures.same r ∙ out_state e)
