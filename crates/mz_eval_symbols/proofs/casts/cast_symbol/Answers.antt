use Rattle.std.proofs.Common.{◌∙◌, refl, ap, subst, sym}
use Rattle.mz_meaning.specs.Cells.{held}
use Rattle.mz_symbol.specs.Runs.{ReadsNodes}
use Rattle.mz_symbol_rows.proofs.RowLaws.{out_both}
use Rattle.mz_eval_cells.specs.Views.{cast_by}
use Rattle.mz_eval_symbols.specs.Steps.{argued}
use Rattle.mz_eval_symbols.proofs.casts.cast_symbol.Goals as goal

pub returns-in_ok-x-in-None-clause-means : goal.returns-in_ok-x-in-None-clause-means
returns-in_ok-x-in-None-clause-means c r h =
    let f = c.in_ok-x-in-None.ensures r.term (subst (ReadsNodes r.term) (sym c.arena.ensures.nodes) h.nodes) in
    out_both (ap (λ b. held r.mode (cast_by b (argued r.term c.args.s))) c.in-None.is ∙ ap (held r.mode) (sym f.same)) refl
