use Rattle.std.proofs.Common.{◌∙◌, sym, ap}
use Rattle.mz_symbol.specs.Readings.{symbol_seen}
use Rattle.mz_symbol.proofs.ConstantLaws.{out_value, out_state}
use Rattle.mz_symbol_rows.specs.StepsNodes.{symbol_of}
use Rattle.mz_symbol_rows.proofs.RowLaws.{out_both}
use Rattle.mz_symbol_rows.proofs.SetLaws.{combined_held}
use Rattle.mz_symbol_rows.proofs.sets.rows.set_op.Goals as goal

pub returns-clause-means : goal.returns-clause-means
returns-clause-means c r h =
    let e = c.in_ok-term.ensures.means r h in
    out_both (combined_held r c.args.op c.args.a c.args.b c.in_ok-x.x c.in_ok-y.y c.in_ok-term.term c.in_ok-x.ensures c.in_ok-y.ensures (out_value e) ∙ ap (λ b. symbol_seen r (symbol_of b c.in_ok-term.term)) (sym c.combined_base.ensures) ∙ ap (symbol_seen r) (sym c.symbol.ensures)) (out_state e)
