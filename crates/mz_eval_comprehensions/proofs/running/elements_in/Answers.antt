use Rattle.std.proofs.Common.{◌∙◌, ap, map, sym}
use Rattle.std.specs.List.{enumerate_from}
use Rattle.mz_meaning.specs.Runs.{Out}
use Rattle.mz_symbol.specs.Readings.{state_of}
use Rattle.mz_eval_cells.specs.declared.types.VarItems.{VarItems}
use Rattle.mz_eval_cells.specs.Views.{known_bound}
use Rattle.mz_eval_comprehensions.specs.Views.{place_in}
use Rattle.mz_eval_comprehensions.proofs.RunningLaws.{row_told}
use Rattle.mz_eval_comprehensions.proofs.running.elements_in.Goals as goal

pub returns-in-Row-clause-means : goal.returns-in-Row-clause-means
returns-in-Row-clause-means c r h =
    let xs = c.in-Row.xs.value in
    rw c.in-Row.is
    (ap (λ es. Out es (state_of r c.args.run.now))
    (row_told r c.in-Row.field-0.value.items xs (map known_bound xs.bounds.value.items)
    ∙ ap (λ (y : VarItems). map (place_in r y) (enumerate_from 0 (map known_bound y.bounds.value.items))) (sym c.deref-in-Row.ensures)
    ∙ sym (c.row_elements.ensures r)))
