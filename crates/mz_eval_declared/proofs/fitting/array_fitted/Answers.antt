use Rattle.std.proofs.Common.{rules, subst, sym}
use Rattle.std.specs.Prelude.{Some, Err}
use Rattle.mz_base.specs.declared.stop.Stop.TheVariants.{Refused}
use Rattle.mz_eval_cells.specs.declared.types.Known.{Known}
use Rattle.mz_eval_cells.specs.Meets.{Tells}
use Rattle.mz_eval_cells.specs.Views.{cell_of, seen}
use Rattle.mz_meaning.specs.Arrays.{fitted_to, own_ranges}
use Rattle.mz_eval_declared.specs.Wants.{wants_of}
use Rattle.mz_eval_declared.proofs.Seeing.{own_same}
use Rattle.mz_eval_declared.proofs.Told.{told_fitted, told_misfit}
use Rattle.mz_eval_declared.proofs.fitting.array_fitted.Goals as goal

pub returns-then-fits_shape-clause-of : goal.returns-then-fits_shape-clause-of
returns-then-fits_shape-clause-of c =
    let k = cell_of c.args.k.now in
    told_fitted cell_of c.args.at (wants_of c.args.ws.now) (own_ranges k) c.in_ok-ranges.ranges.items c.args.n k c.told_moved.result (search rules) (search rules) c.told_moved.ensures.of

pub returns-then-fits_shape-clause-seen : goal.returns-then-fits_shape-clause-seen
returns-then-fits_shape-clause-seen c =
    let k = cell_of c.args.k.now in
    λ r. subst (λ o. Tells (seen r) c.told_moved.result (fitted_to c.args.at (wants_of c.args.ws.now) o (Some c.args.n) (seen r c.args.k.now))) (sym (own_same r c.args.k.now))
    (told_fitted (seen r) c.args.at (wants_of c.args.ws.now) (own_ranges k) c.in_ok-ranges.ranges.items c.args.n (seen r c.args.k.now) c.told_moved.result (search rules) (search rules) (c.told_moved.ensures.seen r))

pub returns-else-fits_shape-clause-of : goal.returns-else-fits_shape-clause-of
returns-else-fits_shape-clause-of c =
    let k = cell_of c.args.k.now in
    told_misfit cell_of c.args.at (wants_of c.args.ws.now) (own_ranges k) c.args.n k _ (search rules) c.at.ensures

pub returns-else-fits_shape-clause-seen : goal.returns-else-fits_shape-clause-seen
returns-else-fits_shape-clause-seen c =
    let k = cell_of c.args.k.now in
    λ r. subst (λ o. Tells {A = Known} (seen r) (Err (Refused c.at.result)) (fitted_to c.args.at (wants_of c.args.ws.now) o (Some c.args.n) (seen r c.args.k.now))) (sym (own_same r c.args.k.now))
    (told_misfit (seen r) c.args.at (wants_of c.args.ws.now) (own_ranges k) c.args.n (seen r c.args.k.now) _ (search rules) c.at.ensures)
