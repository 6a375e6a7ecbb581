use Rattle.std.proofs.Common.{◌∙◌, ap, sym}
use Rattle.mz_meaning.specs.Cells.{held}
use Rattle.mz_symbol.proofs.ConstantLaws.{out_value, out_state}
use Rattle.mz_symbol_rows.proofs.RowLaws.{out_both}
use Rattle.mz_symbol_access.specs.AccessValues.{access_value, at_node}
use Rattle.mz_eval_elements.proofs.AccessLaws.{symbol_node}
use Rattle.mz_eval_elements.proofs.elements.found.Goals as goal

pub returns-clause-means : goal.returns-clause-means
returns-clause-means c r h =
    let e = c.in_ok-s.ensures.means r h in
    let v = access_value r c.args.ranges.now c.args.line c.args.indices.items in
    out_both (ap (held r.mode) (sym (symbol_node c.args.base c.args.opt v) ∙ ap (λ b. at_node b c.args.opt v) (sym c.symbol_base-own.ensures)) ∙ out_value e) (out_state e)
