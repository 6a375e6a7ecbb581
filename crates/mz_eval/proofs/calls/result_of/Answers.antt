use Rattle.std.proofs.Common.{◌∙◌, sym, ap}
use Rattle.mz_core.specs.Types.{plain_type}
use Rattle.mz_core.specs.Program.{function}
use Rattle.mz_meaning.specs.Forms.{done, handed}
use Rattle.mz_meaning.specs.Runs.{then_do}
use Rattle.mz_symbol.specs.Readings.{state_of}
use Rattle.mz_eval_cells.specs.Views.{seen}
use Rattle.mz_eval_guards.specs.Guards.{guard_seen}
use Rattle.mz_eval_declared.specs.Wants.{wanted, wants_of}
use Rattle.mz_eval_names.specs.Names.{result_cell}
use Rattle.mz_eval_chains.proofs.Runs.{meets_at_is}
use Rattle.mz_eval.specs.Levels.{world_in}
use Rattle.mz_eval.proofs.calls.result_of.Goals as goal

pub returns-clause-means : goal.returns-clause-means
unfolding plain_type
returns-clause-means c r h =
    let w = world_in r c.args.level.now in
    let at = c.args.at in
    let t = (function c.args.f.now).result.ty in
    let g = guard_seen r c.args.holds in
    let x = wanted c.args.sets.1 in
    let k = seen r c.args.c in
    let h1 = c.done.ensures.goes.back r h in
    let u = state_of r c.handed.new.run in
    meets_at_is (seen r) c.done.result (state_of r c.done.new.run) _ _
    (ap (λ a. then_do a (λ _. done w at (result_cell r.mode t g (wants_of c.args.sets.0.items) x k))) (c.in_ok-handed.ensures.means r (c.in_ok-cell.ensures.goes.back r h1))
    ∙ ap (λ ks. done w at (result_cell r.mode t g (wants_of ks) x k) u) (sym c.deref.ensures.value)
    ∙ ap (λ a. then_do a (done w at)) (c.in_ok-cell.ensures.means r h1))
    (c.done.ensures.means r h)
