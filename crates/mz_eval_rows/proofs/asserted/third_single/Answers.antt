use Rattle.std.proofs.Common.{◌∙◌, false, sym, ap}
use Rattle.std.specs.Option.{option_map}
use Rattle.mz_core.specs.Types.{plain_type}
use Rattle.mz_operations.specs.Bounds as bounds
use Rattle.mz_meaning.specs.Cells.{Var, typed, value_of}
use Rattle.mz_meaning.specs.Coerced.{recast}
use Rattle.mz_symbol.proofs.ConstantLaws.{out_value, out_state}
use Rattle.mz_symbol_rows.proofs.RowLaws.{out_both}
use Rattle.mz_eval_cells.specs.Views.{known_bound, seen}
use Rattle.mz_eval_row_symbols.specs.NodeRows.{told}
use Rattle.mz_eval_row_symbols.proofs.ToldLaws.{typed_told}
use Rattle.mz_eval_rows.proofs.AssertedLaws.{inner_held}
use Rattle.mz_eval_rows.proofs.asserted.third_single.Goals as goal

pub returns-clause-means : goal.returns-clause-means
returns-clause-means c r h =
    let e = c.in_ok-s.ensures.means r h in
    let t = plain_type c.args.t.now in
    let b = bounds.one (known_bound c.args.bound.now) in
    let v = value_of (seen r c.args.k.now) in
    out_both (sym (typed_told r.mode t b (option_map (recast t.base) v))
    ∙ ap (λ y. typed r.mode false t (Var b y)) (sym (inner_held r.mode (λ x. told t (option_map (recast t.base) x)) v) ∙ out_value e)
    ∙ ap (typed r.mode false t) (sym (c.in_ok-x.ensures r))) (out_state e)
