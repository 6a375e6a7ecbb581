use Rattle.std.proofs.Common.{◌∙◌, ◌*◌, ◌+◌, length, subst}
use Rattle.mz_symbol.specs.Makes.{Spares}
use Rattle.mz_symbol.proofs.ConstantLaws.{out_value, out_state}
use Rattle.mz_symbol_rows.proofs.GoingOn.{goes_drawn}
use Rattle.mz_symbol_rows.proofs.RowLaws.{out_both}
use Rattle.mz_symbol_access.specs.AccessValues.{access_charge}
use Rattle.mz_eval_elements.proofs.elements.drawn.Goals as goal

pub accessed-requires : goal.accessed-requires
accessed-requires c r h = c.requires r (c.draw.ensures.goes.back r h)

pub returns-in_err-s-clause-goes : goal.returns-in_err-s-clause-goes
returns-in_err-s-clause-goes c = goes_drawn (8 * length c.args.at.now + access_charge (length c.args.at.now) c.args.opt) c.args.run.now c.draw.new.self c.accessed.new.run (subst (λ n. Spares n c.args.run.now c.draw.new.self) c.in_ok-charges.ensures c.in_ok-draw.ensures.spares) c.accessed.ensures.goes

pub returns-clause-goes : goal.returns-clause-goes
returns-clause-goes c = goes_drawn (8 * length c.args.at.now + access_charge (length c.args.at.now) c.args.opt) c.args.run.now c.draw.new.self c.accessed.new.run (subst (λ n. Spares n c.args.run.now c.draw.new.self) c.in_ok-charges.ensures c.in_ok-draw.ensures.spares) c.accessed.ensures.goes

pub returns-clause-means : goal.returns-clause-means
returns-clause-means c r h =
    let e = c.in_ok-s.ensures.means r h in
    out_both (out_value e) (c.draw.ensures.same r ∙ out_state e)
