use Rattle.std.proofs.Common.{◌∙◌, Err, ap}
use Rattle.std.proofs.lemmas.Result.{err_from_is_err_and}
use Rattle.mz_core.specs.Types.{plain_type}
use Rattle.mz_meaning.specs.Runs.{then_do}
use Rattle.mz_meaning.specs.Forms.{coerced_once}
use Rattle.mz_eval_cells.specs.Views.{cell_of, seen}
use Rattle.mz_eval_scopes.specs.Runs.{at_work}
use Rattle.mz_eval_scopes.specs.Views.{world_of}
use Rattle.mz_eval_scopes.specs.Seen.{world_seen}
use Rattle.mz_symbol.specs.Readings.{state_of}
use Rattle.mz_eval_chains.proofs.Layers.{coerced_round}
use Rattle.mz_eval_chains.proofs.Runs.{meets_is, meets_err, meets_at_is, meets_at_err}
use Rattle.mz_eval_chains.proofs.nodes.+coerce_round.Goals as goal

pub returns-in_ok-cell-in-Coerce-clause-means : goal.returns-in_ok-cell-in-Coerce-clause-means
returns-in_ok-cell-in-Coerce-clause-means t c r h =
    let w = world_seen r c.args.world.now in
    meets_at_is (seen r) c.coerce_once.result (state_of r c.coerce_once.new.run) _ _
    (coerced_round w c.args.at c.args.e.now c.deref.result.now _ _ (seen r c.args.k) (state_of r c.args.run.now) c.in-Coerce.is c.deref.ensures
    ∙ ap (λ a. then_do a (λ next. coerced_once w c.args.at next (c.in-Coerce.c, plain_type c.args.e.now.ty))) (c.in_ok-cell-in-Coerce.ensures.means r (c.coerce_once.ensures.goes.back r h)))
    (c.coerce_once.ensures.means r h)

pub returns-in_err-cell-in-Coerce-clause-means : goal.returns-in_err-cell-in-Coerce-clause-means
returns-in_err-cell-in-Coerce-clause-means t c r h =
    let p = err_from_is_err_and c.from_residual.result c.from_residual.ensures.1 in
    let w = world_seen r c.args.world.now in
    let s = state_of r c.coerce_round.new.run in
    rw (p.1, p.2) (meets_at_is (seen r) (Err c.in_err-cell-in-Coerce.field-0.0) s _ _
    (coerced_round w c.args.at c.args.e.now c.deref.result.now _ _ (seen r c.args.k) (state_of r c.args.run.now) c.in-Coerce.is c.deref.ensures)
    (meets_at_err (seen r) (seen r) c.in_err-cell-in-Coerce.field-0.0 s s _ (λ next. coerced_once w c.args.at next (c.in-Coerce.c, plain_type c.args.e.now.ty)) (c.in_err-cell-in-Coerce.ensures.means r h)))

pub returns-in_ok-cell-in-Coerce-clause-bare : goal.returns-in_ok-cell-in-Coerce-clause-bare
returns-in_ok-cell-in-Coerce-clause-bare t c =
    let w = world_of c.args.world.now in
    meets_is cell_of c.coerce_once.result c.coerce_once.new.run.work _ _
    (coerced_round w c.args.at c.args.e.now c.deref.result.now _ _ (cell_of c.args.k) (at_work c.args.run.now.work) c.in-Coerce.is c.deref.ensures
    ∙ ap (λ a. then_do a (λ next. coerced_once w c.args.at next (c.in-Coerce.c, plain_type c.args.e.now.ty))) c.in_ok-cell-in-Coerce.ensures.bare)
    c.coerce_once.ensures.bare

pub returns-in_err-cell-in-Coerce-clause-bare : goal.returns-in_err-cell-in-Coerce-clause-bare
returns-in_err-cell-in-Coerce-clause-bare t c =
    let p = err_from_is_err_and c.from_residual.result c.from_residual.ensures.1 in
    let w = world_of c.args.world.now in
    let n = c.coerce_round.new.run.work in
    rw (p.1, p.2) (meets_is cell_of (Err c.in_err-cell-in-Coerce.field-0.0) n _ _
    (coerced_round w c.args.at c.args.e.now c.deref.result.now _ _ (cell_of c.args.k) (at_work c.args.run.now.work) c.in-Coerce.is c.deref.ensures)
    (meets_err cell_of cell_of c.in_err-cell-in-Coerce.field-0.0 n n _ (λ next. coerced_once w c.args.at next (c.in-Coerce.c, plain_type c.args.e.now.ty)) c.in_err-cell-in-Coerce.ensures.bare))
