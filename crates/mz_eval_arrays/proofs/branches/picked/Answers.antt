use Rattle.std.proofs.Common.{◌≡◌, ◌∙◌, ap, is_some, subst, sym}
use Rattle.mz_symbol.specs.declared.types.Symbol.{Symbol}
use Rattle.mz_symbol.proofs.ConstantLaws.{out_value, out_state}
use Rattle.mz_symbol_rows.specs.RowValues.{argument}
use Rattle.mz_symbol_rows.proofs.RowLaws.{out_both}
use Rattle.mz_eval_arrays.specs.ArrayCells.{is_counted}
use Rattle.mz_eval_arrays.proofs.BranchLaws.{picked_told}
use Rattle.mz_eval_arrays.proofs.branches.picked.Goals as goal

pub returns-clause-means : goal.returns-clause-means
returns-clause-means c r h =
    let e = c.in_ok-s.ensures.means r h in
    out_both
    (
    picked_told r (is_counted c.args.base c.args.opt) c.args.id c.args.x c.args.y c.in_ok-s.s c.requires.first c.requires.second c.in_ok-z.ensures.kind (out_value e)
    ∙ ap (argument r) (sym c.in_ok-z.ensures.is)
    )
    (out_state e)

pub returns-clause-kind : goal.returns-clause-kind
returns-clause-kind c = subst (λ (x : Symbol). is_counted x.base (is_some x.occurs) ≡ is_counted c.args.base c.args.opt) (sym c.in_ok-z.ensures.is) c.in_ok-z.ensures.kind
