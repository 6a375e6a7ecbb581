use Rattle.std.proofs.Common.{◌∙◌, ap, sym}
use Rattle.mz_core.specs.Types.{plain_type}
use Rattle.mz_meaning.specs.Cells.{guarded, sealed}
use Rattle.mz_symbol.proofs.ConstantLaws.{out_value, out_state}
use Rattle.mz_symbol_rows.proofs.RowLaws.{out_both}
use Rattle.mz_eval_guards.specs.Guards.{guard_seen}
use Rattle.mz_eval_comprehensions.proofs.whole.comprehended.Goals as goal

pub returns-clause-means : goal.returns-clause-means
returns-clause-means c r h =
    let t = plain_type c.args.t.now in
    let y = c.in_ok-y.ensures.cell in
    let e = c.in_ok-k.ensures.means r (c.in_ok-y.ensures.goes.back r h) in
    out_both
    (
    ap (guarded r.mode t (guard_seen r c.args.made.whole)) (ap (sealed r.mode t.var t) (out_value e) ∙ sym (c.in_ok-x.ensures r))
    ∙ sym (y.is r h)
    )
    (out_state e ∙ y.same r h)
