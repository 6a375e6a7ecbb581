use Rattle.std.proofs.Common.{◌∙◌, ap, refl, None}
use Rattle.mz_meaning.specs.Runs.{Out}
use Rattle.mz_symbol.specs.Readings.{state_of}
use Rattle.mz_symbol.proofs.ConstantLaws.{out_value, out_state}
use Rattle.mz_symbol_rows.proofs.RowLaws.{out_both}
use Rattle.mz_eval_elements.proofs.PlaceLaws.{none_told, row_at, row_placed}
use Rattle.mz_eval_elements.proofs.places.row_element.Goals as goal

pub returns-in_ok-none-in-None-clause-means : goal.returns-in_ok-none-in-None-clause-means
returns-in_ok-none-in-None-clause-means c r h =
    ap (λ v. Out v (state_of r c.args.run.now))
    (
    row_at r c.args.base c.args.opt c.args.index.now c.args.xs.now c.args.at.now None c.requires (c.in-Ok.ensures ∙ c.in-None.is)
    ∙ none_told r c.args.base c.args.opt c.in_ok-none-in-None.none None refl (c.in_ok-none-in-None.ensures.seen r)
    )

pub returns-in_ok-k-in-Some-clause-means : goal.returns-in_ok-k-in-Some-clause-means
returns-in_ok-k-in-Some-clause-means c r h =
    let e = c.in_ok-k-in-Some.ensures.means r h in
    out_both (row_placed r c.args.base c.args.opt c.args.index.now c.args.xs.now c.args.at.now c.in-Some.n c.requires (c.in-Ok.ensures ∙ c.in-Some.is) ∙ out_value e) (out_state e)
