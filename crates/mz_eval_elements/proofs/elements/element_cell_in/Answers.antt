use Rattle.std.proofs.Common.{◌∙◌, ap, false, sym}
use Rattle.mz_core.specs.Types.{plain_type}
use Rattle.mz_meaning.specs.Runs.{Out}
use Rattle.mz_meaning.specs.Cells.{typed}
use Rattle.mz_symbol.specs.Readings.{state_of}
use Rattle.mz_eval_elements.proofs.AccessLaws.{par_told}
use Rattle.mz_eval_elements.proofs.elements.element_cell_in.Goals as goal

pub returns-then-are_par-clause-means : goal.returns-then-are_par-clause-means
returns-then-are_par-clause-means c r h =
    let t = plain_type c.args.t.now in
    ap (λ x. Out (typed r.mode false t x) (state_of r c.args.run.now)) (par_told r t c.args.a.now c.args.at.now c.in_ok-k.k (sym c.are_par.ensures ∙ c.if-are_par.true) c.in_ok-k.ensures)
