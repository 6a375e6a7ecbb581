use Rattle.std.proofs.Common.{◌∙◌, ◌*◌, length, subst}
use Rattle.mz_symbol.specs.Makes.{Spares}
use Rattle.mz_symbol.proofs.ConstantLaws.{out_value, out_state}
use Rattle.mz_symbol_rows.proofs.GoingOn.{goes_drawn}
use Rattle.mz_symbol_rows.proofs.RowLaws.{out_both}
use Rattle.mz_eval_arrays.proofs.arrays.drawn_line.Goals as goal

pub returns-in_err-k-clause-goes : goal.returns-in_err-k-clause-goes
returns-in_err-k-clause-goes c = goes_drawn (58 * length c.args.all.now) c.args.run.now c.draw.new.self c.open_line.new.run (subst (λ n. Spares n c.args.run.now c.draw.new.self) c.in_ok-charges.ensures c.in_ok-draw.ensures.spares) c.open_line.ensures.goes

pub returns-clause-goes : goal.returns-clause-goes
returns-clause-goes c = goes_drawn (58 * length c.args.all.now) c.args.run.now c.draw.new.self c.open_line.new.run (subst (λ n. Spares n c.args.run.now c.draw.new.self) c.in_ok-charges.ensures c.in_ok-draw.ensures.spares) c.open_line.ensures.goes

pub returns-clause-means : goal.returns-clause-means
returns-clause-means c r h =
    let e = c.in_ok-k.ensures.means r h in
    out_both (out_value e) (c.draw.ensures.same r ∙ out_state e)
