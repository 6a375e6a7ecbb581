use Rattle.std.proofs.Common.{◌≡◌, ◌∙◌, ap, is_some, subst, sym}
use Rattle.mz_symbol.specs.declared.types.Symbol.{Symbol}
use Rattle.mz_symbol.proofs.ConstantLaws.{out_value, out_state}
use Rattle.mz_symbol_rows.specs.RowValues.{argument}
use Rattle.mz_symbol_rows.proofs.RowLaws.{out_both}
use Rattle.mz_eval_arrays.specs.ArrayCells.{is_counted}
use Rattle.mz_eval_elements.proofs.PlaceLaws.{guarded_told}
use Rattle.mz_eval_elements.proofs.places.guarded_symbol.Goals as goal

pub returns-clause-means : goal.returns-clause-means
returns-clause-means c r h =
    let e = c.in_ok-s.ensures.means r h in
    let v = c.in_ok-x.ensures.means r (c.in_ok-s.ensures.goes.back r h) in
    let own = sym c.in_ok-own.ensures.is in
    out_both
    (
    guarded_told r c.args.base c.args.opt c.args.d c.args.k.now c.in_ok-own.own c.in_ok-s.s (out_value v ∙ ap (argument r) own) (out_value e) (subst (λ (y : Symbol). is_counted y.base (is_some y.occurs) ≡ is_counted c.args.base c.args.opt) own c.in_ok-own.ensures.kind) c.in_ok-z.ensures.kind
    ∙ ap (argument r) (sym c.in_ok-z.ensures.is)
    )
    (out_state v ∙ out_state e)
