use Rattle.std.proofs.Common.{subst}
use Rattle.std.specs.Prelude.{Ok}
use Rattle.mz_meaning.specs.Arrays.{fitted_to, own_ranges}
use Rattle.mz_eval_cells.specs.Views.{cell_of, seen}
use Rattle.mz_eval_cells.specs.Meets.{Tells}
use Rattle.mz_eval_declared.specs.Wants.{wants_of}
use Rattle.mz_eval_declared.proofs.Told.{told_given}
use Rattle.mz_eval_declared.proofs.fitting.fitted_to.Goals as goal

pub returns-in-None-clause-of : goal.returns-in-None-clause-of
returns-in-None-clause-of c =
    let k = cell_of c.args.k in
    subst (λ o. Tells cell_of (Ok c.args.k) (fitted_to c.args.at (wants_of c.args.ws.now) (own_ranges k) o k)) c.in-None.ensures.count (told_given cell_of c.args.k)

pub returns-in-None-clause-seen : goal.returns-in-None-clause-seen
returns-in-None-clause-seen c r =
    let k = seen r c.args.k in
    subst (λ o. Tells (seen r) (Ok c.args.k) (fitted_to c.args.at (wants_of c.args.ws.now) (own_ranges k) o k)) (c.in-None.ensures.seen r) (told_given (seen r) c.args.k)

pub returns-in-Some-clause-of : goal.returns-in-Some-clause-of
returns-in-Some-clause-of c =
    let k = cell_of c.args.k in
    subst (λ o. Tells cell_of c.array_fitted.result (fitted_to c.args.at (wants_of c.args.ws.now) (own_ranges k) o k)) c.in-Some.ensures.count c.array_fitted.ensures.of

pub returns-in-Some-clause-seen : goal.returns-in-Some-clause-seen
returns-in-Some-clause-seen c r =
    let k = seen r c.args.k in
    subst (λ o. Tells (seen r) c.array_fitted.result (fitted_to c.args.at (wants_of c.args.ws.now) (own_ranges k) o k)) (c.in-Some.ensures.seen r) (c.array_fitted.ensures.seen r)
