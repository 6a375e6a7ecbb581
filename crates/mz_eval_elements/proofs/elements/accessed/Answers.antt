use Rattle.std.proofs.Common.{◌∙◌, ap, length, sym}
use Rattle.mz_symbol.proofs.ConstantLaws.{out_value, out_state}
use Rattle.mz_symbol_rows.specs.RowValues.{argument}
use Rattle.mz_symbol_rows.proofs.RowLaws.{out_both}
use Rattle.mz_eval_elements.proofs.AccessLaws.{element_told}
use Rattle.mz_eval_elements.proofs.ElementLaws.{goes_found}
use Rattle.mz_eval_elements.proofs.elements.accessed.Goals as goal

pub returns-in_err-s-clause-goes : goal.returns-in_err-s-clause-goes
returns-in_err-s-clause-goes c = goes_found (length c.args.at.now) c.args.opt c.in-Ok.indices.items c.args.run.now c.indices_of.new.run c.found.new.run c.in-Ok.ensures.count c.indices_of.ensures.goes c.found.ensures.goes

pub returns-in_err-x-clause-goes : goal.returns-in_err-x-clause-goes
returns-in_err-x-clause-goes c = goes_found (length c.args.at.now) c.args.opt c.in-Ok.indices.items c.args.run.now c.indices_of.new.run c.found.new.run c.in-Ok.ensures.count c.indices_of.ensures.goes c.found.ensures.goes

pub returns-clause-goes : goal.returns-clause-goes
returns-clause-goes c = goes_found (length c.args.at.now) c.args.opt c.in-Ok.indices.items c.args.run.now c.indices_of.new.run c.found.new.run c.in-Ok.ensures.count c.indices_of.ensures.goes c.found.ensures.goes

pub returns-clause-means : goal.returns-clause-means
returns-clause-means c r h =
    let e = c.in_ok-s.ensures.means r h in
    let h1 = c.in_ok-s.ensures.goes.back r h in
    let a = c.in-Ok.ensures.made r h1 in
    out_both
    (
    element_told r c.args.base c.args.opt c.args.a.now c.args.at.now c.args.line c.ranges_in-ranges.result.now c.in-Ok.indices.items c.in_ok-s.s c.ranges_in-ranges.ensures (c.requires r (c.in-Ok.ensures.goes.back r h1)) a.values (out_value e) c.in_ok-x.ensures.kind
    ∙ ap (argument r) (sym c.in_ok-x.ensures.is)
    )
    (a.same ∙ out_state e)
