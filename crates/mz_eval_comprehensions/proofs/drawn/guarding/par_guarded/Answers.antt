use Rattle.std.proofs.Common.{◌∙◌, ap, refl, sym}
use Rattle.mz_meaning.specs.Cells.{kept_if}
use Rattle.mz_eval_cells.specs.Views.{seen}
use Rattle.mz_eval_comprehensions.proofs.GuardLaws.{kept_nowhere, kept_whole}
use Rattle.mz_eval_comprehensions.proofs.drawn.guarding.par_guarded.Goals as goal

pub returns-then-is-clause-cell : goal.returns-then-is-clause-cell
returns-then-is-clause-cell c = record { same = λ r h. refl; is = λ r h. kept_whole r c.args.k ∙ ap (λ b. kept_if r.mode b (seen r c.args.k)) (sym c.if-is.true) }

pub returns-then-is_par-clause-cell : goal.returns-then-is_par-clause-cell
returns-then-is_par-clause-cell c = record { same = λ r h. refl; is = λ r h. c.undefined.ensures.seen r ∙ kept_nowhere r c.args.k (sym c.is_par.ensures ∙ c.if-is_par.true) ∙ ap (λ b. kept_if r.mode b (seen r c.args.k)) (sym c.if-is.false) }
