use Rattle.std.proofs.Common.{◌∙◌}
use Rattle.mz_symbol.proofs.ConstantLaws.{out_value, out_state}
use Rattle.mz_symbol_rows.proofs.RowLaws.{out_both}
use Rattle.mz_symbol_arrays.proofs.ItemLaws.{sure_there}
use Rattle.mz_symbol_arrays.proofs.items.sure_there.Goals as goal

pub returns-clause-means : goal.returns-clause-means
returns-clause-means c r h =
    let e = c.in_ok-yes.ensures.means r h in
    out_both (sure_there (r.term c.args.x) (r.term c.in_ok-yes.yes) (c.requires r.term (c.in_ok-yes.ensures.goes.back r h).nodes) (out_value e)) (out_state e)
