use Rattle.std.proofs.Common.{◌∙◌, length}
use Rattle.mz_symbol.proofs.ConstantLaws.{out_value, out_state}
use Rattle.mz_symbol_rows.proofs.RowLaws.{out_both}
use Rattle.mz_symbol_arrays.proofs.ArrayLaws.{items_line, items_whole, goes_line}
use Rattle.mz_symbol_arrays.proofs.arrays.line_of.Goals as goal

pub push_line-requires : goal.push_line-requires
push_line-requires c = items_whole c.args.run.now c.made_items.new.run c.args.items.now c.in-Ok.made.all.items c.in-Ok.made.defined c.in-Ok.ensures.made

pub returns-in_err-line-clause-goes : goal.returns-in_err-line-clause-goes
returns-in_err-line-clause-goes c = goes_line (length c.args.items.now) c.args.run.now c.made_items.new.run c.push_line.new.self c.in-Ok.made.all.items c.in-Ok.ensures.count c.made_items.ensures.goes c.push_line.ensures.goes

pub returns-clause-goes : goal.returns-clause-goes
returns-clause-goes c = goes_line (length c.args.items.now) c.args.run.now c.made_items.new.run c.push_line.new.self c.in-Ok.made.all.items c.in-Ok.ensures.count c.made_items.ensures.goes c.push_line.ensures.goes

pub returns-clause-means : goal.returns-clause-means
returns-clause-means c r h =
    let e = c.in_ok-line.ensures.means r h in
    let a = c.in-Ok.ensures.made r (c.in_ok-line.ensures.goes.back r h) in
    out_both (items_line r.term c.args.items.now c.in-Ok.made.all.items c.in-Ok.made.defined a.items c.in-Ok.ensures.count ∙ out_value e) (a.same ∙ out_state e)
