use Rattle.std.proofs.Common.{◌∙◌, sym, ap}
use Rattle.mz_meaning.specs.Cells.{held}
use Rattle.mz_symbol.proofs.ConstantLaws.{out_value, out_state}
use Rattle.mz_symbol_rows.proofs.RowLaws.{out_both}
use Rattle.mz_symbol_access.proofs.ElementLaws.{false_node, lost_held}
use Rattle.mz_symbol_access.proofs.nowhere.nowhere.Goals as goal

pub returns-then-is_false-clause-means : goal.returns-then-is_false-clause-means
returns-then-is_false-clause-means c r h =
    let e = c.in_ok-no.ensures.means r h in
    out_both (ap (held r.mode) (false_node c.args.base c.args.opt (sym c.is_false.ensures ∙ c.if-is_false.true)) ∙ out_value e) (out_state e)

pub returns-clause-means : goal.returns-clause-means
returns-clause-means c r h =
    let w = c.in-Ok.ensures.lost r h in
    out_both (lost_held r c.args.run.now c.lost.new.run c.args.base c.args.opt c.in-Ok.none (sym c.is_false.ensures ∙ c.if-is_false.false) w) w.same
