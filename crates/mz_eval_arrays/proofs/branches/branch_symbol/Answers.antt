use Rattle.std.proofs.Common.{◌≡◌, ◌∙◌, ap, is_some, subst, sym}
use Rattle.mz_symbol.specs.declared.types.Symbol.{Symbol}
use Rattle.mz_symbol.proofs.ConstantLaws.{out_value, out_state}
use Rattle.mz_symbol_rows.specs.RowValues.{argument}
use Rattle.mz_symbol_rows.proofs.RowLaws.{out_both}
use Rattle.mz_eval_arrays.specs.ArrayCells.{is_counted}
use Rattle.mz_eval_arrays.proofs.branches.branch_symbol.Goals as goal

pub returns-clause-means : goal.returns-clause-means
returns-clause-means c r h =
    let e = c.in_ok-s.ensures.means r h in
    out_both (out_value e ∙ ap (argument r) (sym c.in_ok-x.ensures.is)) (out_state e)

pub returns-clause-kind : goal.returns-clause-kind
returns-clause-kind c = subst (λ (x : Symbol). is_counted x.base (is_some x.occurs) ≡ is_counted c.args.base c.args.opt) (sym c.in_ok-x.ensures.is) c.in_ok-x.ensures.kind
