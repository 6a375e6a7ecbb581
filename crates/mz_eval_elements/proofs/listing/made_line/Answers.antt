use Rattle.std.proofs.Common.{◌∙◌, ◌*◌, ap, subst, sym}
use Rattle.mz_symbol.specs.Makes.{GoesOn, Spares}
use Rattle.mz_symbol.specs.Readings.{Reads, state_of}
use Rattle.mz_symbol.proofs.ConstantLaws.{out_value, out_state}
use Rattle.mz_symbol_rows.proofs.GoingOn.{goes_drawn}
use Rattle.mz_symbol_rows.proofs.RowLaws.{out_both}
use Rattle.mz_eval_symbols.specs.Taken.{count_in}
use Rattle.mz_eval_elements.proofs.listing.made_line.Goals as goal

pub returns-in_err-line-clause-goes : goal.returns-in_err-line-clause-goes
returns-in_err-line-clause-goes c =
    let charge = c.in_ok-charges.ensures ∙ ap (λ n. 20 * n) c.count_in.ensures in
    goes_drawn (20 * count_in c.args.k.now) c.args.run.now c.draw.new.self c.line_in.new.run (subst (λ n. Spares n c.args.run.now c.draw.new.self) charge c.in_ok-draw.ensures.spares) c.line_in.ensures.goes

pub returns-in_err-hint-clause-goes : goal.returns-in_err-hint-clause-goes
returns-in_err-hint-clause-goes c =
    let charge = c.in_ok-charges.ensures ∙ ap (λ n. 20 * n) c.count_in.ensures in
    subst (GoesOn c.args.run.now) (sym c.hint.ensures) (goes_drawn (20 * count_in c.args.k.now) c.args.run.now c.draw.new.self c.line_in.new.run (subst (λ n. Spares n c.args.run.now c.draw.new.self) charge c.in_ok-draw.ensures.spares) c.line_in.ensures.goes)

pub returns-clause-goes : goal.returns-clause-goes
returns-clause-goes c =
    let charge = c.in_ok-charges.ensures ∙ ap (λ n. 20 * n) c.count_in.ensures in
    subst (GoesOn c.args.run.now) (sym c.hint.ensures) (goes_drawn (20 * count_in c.args.k.now) c.args.run.now c.draw.new.self c.line_in.new.run (subst (λ n. Spares n c.args.run.now c.draw.new.self) charge c.in_ok-draw.ensures.spares) c.line_in.ensures.goes)

pub returns-clause-means : goal.returns-clause-means
returns-clause-means c r h =
    let e = c.in_ok-line.ensures.means r (subst (Reads r) c.hint.ensures h) in
    out_both (out_value e) (c.draw.ensures.same r ∙ out_state e ∙ ap (state_of r) (sym c.hint.ensures))
