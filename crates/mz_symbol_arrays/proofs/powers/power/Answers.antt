use Rattle.std.proofs.Common.{◌∙◌, sym, ap}
use Rattle.mz_symbol.specs.Readings.{symbol_seen}
use Rattle.mz_symbol_rows.proofs.RowLaws.{out_both}
use Rattle.mz_symbol_arrays.proofs.PowerLaws.{power_held}
use Rattle.mz_symbol_arrays.proofs.powers.power.Goals as goal

pub returns-clause-means : goal.returns-clause-means
returns-clause-means c names r h =
    let w = c.in-Ok.ensures.powers r h in
    out_both (power_held r c.args.run.now c.power_node.new.run names c.args.a c.in_ok-x.x c.args.k c.in-Ok.term c.in_ok-x.ensures w ∙ ap (symbol_seen r) (sym c.whole.ensures)) w.same
