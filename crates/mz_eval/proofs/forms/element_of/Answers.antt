use Rattle.std.proofs.Common.{◌∙◌, Err, false, sym, ap}
use Rattle.std.proofs.lemmas.Result.{err_from_is_err_and}
use Rattle.mz_core.specs.Types.{plain_type}
use Rattle.mz_meaning.specs.Arrays.{access_cell}
use Rattle.mz_meaning.specs.Forms.{done}
use Rattle.mz_meaning.specs.Runs.{then_do}
use Rattle.mz_symbol.specs.Readings.{state_of}
use Rattle.mz_eval_cells.specs.Views.{all_seen, seen}
use Rattle.mz_eval_nodes.specs.Views.{stamped}
use Rattle.mz_eval_chains.proofs.Runs.{meets_at_err, meets_at_is}
use Rattle.mz_eval.specs.Levels.{world_in}
use Rattle.mz_eval.proofs.Stamps.{done_typed, stamps}
use Rattle.mz_eval.proofs.forms.element_of.Goals as goal

pub returns-clause-means : goal.returns-clause-means
returns-clause-means c r h =
    let w = world_in r c.args.level.now in
    let t = plain_type c.args.node.now.ty in
    let at = c.args.node.now.span in
    let x = access_cell r.mode t (seen r c.args.a.now) (all_seen r c.args.at.now) in
    let u = state_of r c.element_cell_in.new.run in
    meets_at_is (stamped t r) c.done.result (state_of r c.done.new.run) _ _
    (done_typed w at t x (state_of r c.args.run.now)
    ∙ ap (λ a. then_do a (done w at)) (c.in_ok-element.ensures.means r (c.done.ensures.goes.back r h))
    ∙ sym (done_typed w at t (seen r c.in_ok-element.element) u))
    (stamps (seen r) r.mode false t c.done.result (state_of r c.done.new.run) (done w at (seen r c.in_ok-element.element) u) (c.done.ensures.means r h))

pub returns-in_err-element-clause-means : goal.returns-in_err-element-clause-means
returns-in_err-element-clause-means c r h =
    let p = err_from_is_err_and c.from_residual.result c.from_residual.ensures.1 in
    let w = world_in r c.args.level.now in
    let t = plain_type c.args.node.now.ty in
    let at = c.args.node.now.span in
    let x = access_cell r.mode t (seen r c.args.a.now) (all_seen r c.args.at.now) in
    let u = state_of r c.element_cell_in.new.run in
    rw (p.1, p.2) (meets_at_is (stamped t r) (Err c.in_err-element.field-0.0) u _ _
    (done_typed w at t x (state_of r c.args.run.now))
    (meets_at_err (stamped t r) (stamped t r) c.in_err-element.field-0.0 u u _ (done w at) (c.in_err-element.ensures.means r h)))
