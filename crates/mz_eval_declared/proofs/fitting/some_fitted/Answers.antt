use Rattle.std.proofs.Common.{sym, ◌∙◌}
use Rattle.mz_meaning.specs.Runs.{give}
use Rattle.mz_meaning.specs.Cells.{length_of}
use Rattle.mz_meaning.specs.Arrays.{fitted_to, no_missing, own_ranges}
use Rattle.mz_eval_cells.specs.Views.{cell_of, seen}
use Rattle.mz_eval_declared.specs.Wants.{wants_of}
use Rattle.mz_eval_declared.proofs.Told.{told_first, told_given, told_second}
use Rattle.mz_eval_declared.proofs.fitting.some_fitted.Goals as goal

pub returns-then-no_missing-clause-of : goal.returns-then-no_missing-clause-of
returns-then-no_missing-clause-of c =
    let ws = wants_of c.args.ws.now in
    let k = cell_of c.args.k in
    told_first cell_of c.fitted_to.result (fitted_to c.args.at ws (own_ranges k) (length_of k) k) (give k) (no_missing ws) (sym c.no_missing.ensures ∙ c.if-no_missing.true) c.fitted_to.ensures.of

pub returns-then-no_missing-clause-seen : goal.returns-then-no_missing-clause-seen
returns-then-no_missing-clause-seen c r =
    let ws = wants_of c.args.ws.now in
    let k = seen r c.args.k in
    told_first (seen r) c.fitted_to.result (fitted_to c.args.at ws (own_ranges k) (length_of k) k) (give k) (no_missing ws) (sym c.no_missing.ensures ∙ c.if-no_missing.true) (c.fitted_to.ensures.seen r)

pub returns-else-no_missing-clause-of : goal.returns-else-no_missing-clause-of
returns-else-no_missing-clause-of c =
    let ws = wants_of c.args.ws.now in
    let k = cell_of c.args.k in
    told_second cell_of _ (fitted_to c.args.at ws (own_ranges k) (length_of k) k) (give k) (no_missing ws) (sym c.no_missing.ensures ∙ c.if-no_missing.false) (told_given cell_of c.args.k)

pub returns-else-no_missing-clause-seen : goal.returns-else-no_missing-clause-seen
returns-else-no_missing-clause-seen c r =
    let ws = wants_of c.args.ws.now in
    let k = seen r c.args.k in
    told_second (seen r) _ (fitted_to c.args.at ws (own_ranges k) (length_of k) k) (give k) (no_missing ws) (sym c.no_missing.ensures ∙ c.if-no_missing.false) (told_given (seen r) c.args.k)
